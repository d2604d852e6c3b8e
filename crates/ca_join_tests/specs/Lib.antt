pub mod Halting
pub mod Objects
pub mod Stopping
