mod Common
pub mod Bits
pub mod Waiting
pub mod Seats
