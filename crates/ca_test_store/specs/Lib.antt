pub mod ForeignView
pub mod Inner
pub mod Played
pub mod Promises
pub mod Refusals
pub mod Script
pub mod ScriptedView
