pub mod Listed
pub mod Opened
