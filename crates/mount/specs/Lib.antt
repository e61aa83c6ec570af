pub mod Mounted
