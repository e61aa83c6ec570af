mod Common
pub mod Joined
pub mod Holding
pub mod Releasing
pub mod Named
pub mod Leaving
pub mod Current
pub mod Runs
pub mod Reaping
pub mod Changes
pub mod Picking
pub mod Steps
pub mod Ending
pub mod Memories
pub mod FileChanges
pub mod Readies
mod Pending
pub mod Watching
pub mod Asleep
pub mod Turning
pub mod Opening
pub mod Working
pub mod Closing
pub mod Forking
