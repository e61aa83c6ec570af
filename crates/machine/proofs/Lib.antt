mod Common
mod Steps
mod FlatLemmas
mod FlatSpaces
mod Booting
mod Beginning
pub mod RunLemmas
