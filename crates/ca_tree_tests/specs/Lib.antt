pub mod Objects
pub mod Ready
