pub mod Carries
pub mod Clients
pub mod Explaining
pub mod Pairs
pub mod Places
pub mod Stands
pub mod Steps
pub mod Worked
