pub mod Sealed
pub mod Follows
pub mod Numbers
pub mod Puts
pub mod Walked
pub mod Tells
