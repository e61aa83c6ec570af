pub mod Waiting
pub mod Resting
