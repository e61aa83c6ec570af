mod Common
pub mod Headings
pub mod Reading
pub mod Loads
pub mod Plans
pub mod Places
pub mod Stacks
