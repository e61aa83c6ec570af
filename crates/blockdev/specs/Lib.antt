pub mod Blocks
pub mod Disk
pub mod Reached
pub mod Sizes
pub mod Splice
