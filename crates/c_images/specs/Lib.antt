pub mod Copied
pub mod Faults
pub mod Texts
pub mod Images
