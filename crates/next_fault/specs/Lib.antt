pub mod Causes
pub mod DataAccesses
