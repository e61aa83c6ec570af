pub mod Asking
pub mod Declarations
pub mod Names
