pub mod Distance
pub mod Emitted
pub mod Labels
pub mod Placed
