pub mod LineLemmas
pub mod ManifestLemmas
pub mod Clocking
pub mod RowsRead
pub mod Keeping
pub mod Recording
pub mod Scripting
mod Wording
mod Acting
