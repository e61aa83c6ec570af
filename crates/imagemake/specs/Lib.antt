pub mod Added
pub mod Begins
pub mod Begun
pub mod Made
pub mod Makers
pub mod Making
pub mod Nodes
