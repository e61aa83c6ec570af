mod Common
pub mod Ram
pub mod Bytes
pub mod Products
pub mod Steps
pub mod ChangeLemmas
pub mod Again
pub mod Acts
pub mod Straight
pub mod Running
pub mod Stopping
pub mod Pages
