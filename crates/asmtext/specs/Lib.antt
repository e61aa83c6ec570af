pub mod Forms
pub mod Numbers
pub mod Operations
pub mod Statements
pub mod Symbols
