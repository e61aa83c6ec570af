pub mod Covering
pub mod Found
