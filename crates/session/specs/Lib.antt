pub mod Copied
pub mod Told
pub mod Held
pub mod Played
