-- What the contracts of private functions cite. No other crate does.
pub mod NextView
pub mod Place
pub mod Reading
