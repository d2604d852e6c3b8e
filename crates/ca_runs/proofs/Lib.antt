pub mod Keeping
pub mod Marking
pub mod Showing
pub mod Turning
mod Worked
