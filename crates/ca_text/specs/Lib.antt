pub mod Bytes
pub mod Front
pub mod Grammar
pub mod Inner
pub mod Text
pub mod Written
