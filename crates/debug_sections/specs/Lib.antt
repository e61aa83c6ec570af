pub mod Bytes
pub mod File
pub mod Labels
pub mod Program
pub mod Unit
