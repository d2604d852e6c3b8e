pub mod Codes
pub mod Collected
pub mod ComesTo
pub mod Made
pub mod Refusals
pub mod Renewed
pub mod ResultsView
pub mod Room
