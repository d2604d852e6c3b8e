pub mod Chain
pub mod Codes
pub mod Commands
pub mod Crossing
pub mod Levels
pub mod Logs
pub mod OneHistory
pub mod Refusals
pub mod Rows
pub mod Shares
pub mod Sharing
mod Telling
pub mod Tended
pub mod Trying
