pub mod Enders
pub mod Lines
pub mod Causes
pub mod Arguments
pub mod Rows
