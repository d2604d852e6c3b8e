pub mod Count
pub mod DirShelf
pub mod Drawer
pub mod Fetches
pub mod Known
pub mod Output
pub mod Tape
