mod Arguments
pub mod Coding
pub mod Commands
mod CutLines
pub mod Determined
mod Files
mod Generating
pub mod Keeping
mod Listing
pub mod Parts
pub mod Same
mod TermTexts
mod Words
