mod Accounts
mod Calling
mod Chains
pub mod Claiming
pub mod Closing
pub mod Forking
mod GivingBack
pub mod Heads
pub mod HeldCount
pub mod Keeping
pub mod Listing
pub mod Making
pub mod NoneOld
pub mod OwnWords
mod PinSteps
mod Pinned
pub mod Relinking
mod Resting
mod Regaining
mod Retiring
mod Rounding
pub mod Rules
mod Scanning
mod Starting
pub mod Steps
mod Takers
