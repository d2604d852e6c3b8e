pub mod Adding
pub mod Answering
pub mod Beginning
pub mod Events
pub mod Making
pub mod Passes
pub mod Playing
pub mod Turns
