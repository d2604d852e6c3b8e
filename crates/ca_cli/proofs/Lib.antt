pub mod Accepted
pub mod Bounded
pub mod Explained
pub mod Firsts
pub mod Made
pub mod Openings
pub mod Texts
