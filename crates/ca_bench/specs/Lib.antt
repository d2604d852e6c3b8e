pub mod CodedView
pub mod Numbers
