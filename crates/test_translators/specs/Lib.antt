pub mod Chosen
pub mod Notes
