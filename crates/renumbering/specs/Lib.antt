pub mod Renumbered
pub mod Alike
pub mod Pairs
