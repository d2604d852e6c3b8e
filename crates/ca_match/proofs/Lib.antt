pub mod Gathered
pub mod Heads
pub mod Matching
pub mod OperatorRows
pub mod Pieces
pub mod Specifications
pub mod Words
