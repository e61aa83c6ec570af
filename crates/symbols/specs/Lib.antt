pub mod Entries
pub mod Nearest
pub mod Places
pub mod Tables
