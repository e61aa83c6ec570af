pub mod Pipe
