pub mod Pids
pub mod Waits
pub mod Prompts
