pub mod Debugged
pub mod Told
