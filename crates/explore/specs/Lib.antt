pub mod Along
pub mod Both
pub mod Tidy
