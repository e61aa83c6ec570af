pub mod LastCalls
pub mod Watching
