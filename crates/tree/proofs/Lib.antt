mod Common
pub mod Storing
pub mod Stored
pub mod Naming
pub mod Unlinked
pub mod Places
pub mod Scanning
pub mod Writing
pub mod Gaps
pub mod NewFiles
pub mod Links
pub mod Directories
pub mod Following
pub mod Ending
pub mod Keeping
