pub mod Entries
pub mod Handed
