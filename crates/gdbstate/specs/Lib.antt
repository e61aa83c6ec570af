pub mod Accesses
pub mod Looks
pub mod Passing
pub mod Stops
pub mod Watches
