mod Common
mod LineLemmas
mod LoopLemmas
mod NameLemmas
pub mod NumberLemmas
mod PartLemmas
