pub mod Frames
pub mod Hex
pub mod Packets
pub mod Actions
