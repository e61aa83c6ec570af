mod Common
mod Clearing
mod Formatting
pub mod BitRules
pub mod Counting
