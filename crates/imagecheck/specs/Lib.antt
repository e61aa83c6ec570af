pub mod Checks
pub mod Entries
pub mod Faults
pub mod Namings
pub mod Reach
pub mod Slots
pub mod Summaries
