pub mod Alive
pub mod Calls
pub mod Features
pub mod Files
