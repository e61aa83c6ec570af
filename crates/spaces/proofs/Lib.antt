mod Common
mod Places
mod Traded
mod Shown
mod Piped
mod Stepped
mod Rights
mod Ran
pub mod SpacesLemmas
