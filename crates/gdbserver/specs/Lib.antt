pub mod Debugging
pub mod Shown
