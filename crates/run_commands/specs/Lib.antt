pub mod Files
pub mod Runs
pub mod ScriptFiles
pub mod Seats
pub mod Shows
pub mod Tellings
