mod Common
pub mod Running
pub mod Acts
pub mod Processes
pub mod Waits
pub mod Takes
mod Transfers
pub mod Pipes
pub mod Sends
pub mod Receives
pub mod Names
pub mod Unlinks
pub mod Stores
pub mod Attributes
pub mod Opens
pub mod Openable
pub mod Pieces
pub mod Computing
