pub mod Debugged
