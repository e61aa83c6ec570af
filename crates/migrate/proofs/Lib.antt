mod Common
pub mod Emptied
pub mod Copied
