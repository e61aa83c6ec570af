pub mod Meant
pub mod Places
pub mod Sound
pub mod Counts
pub mod Pipes
