pub mod Paths
pub mod Points
pub mod Signals
