pub mod Pairing
pub mod Likeness
