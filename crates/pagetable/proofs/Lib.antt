mod Common
pub mod ShapeLemmas
pub mod TreeLemmas
pub mod WriteLemmas
pub mod AgreeLemmas
