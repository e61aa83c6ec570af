pub mod Covering
pub mod Found
pub mod Machine
