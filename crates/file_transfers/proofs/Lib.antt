mod Common
pub mod Memory
pub mod Pieces
pub mod Fits
