pub mod Paths
pub mod Programs
