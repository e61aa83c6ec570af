mod Common
pub mod Tables
pub mod Added
pub mod Adding
pub mod Removed
pub mod Empty
pub mod DenseLemmas
pub mod HeldLemmas
pub mod BesideLemmas
pub mod Forked
pub mod PageLemmas
pub mod ReachLemmas
pub mod Remap
pub mod SharesLemmas
pub mod StoreLemmas
pub mod TrapLemmas
