pub mod Consumed
pub mod Counts
pub mod Growth
