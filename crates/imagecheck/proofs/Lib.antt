mod Common
pub mod Collecting
pub mod Entering
mod Judging
pub mod Parents
pub mod Reaching
pub mod Slotting
pub mod Sounding
