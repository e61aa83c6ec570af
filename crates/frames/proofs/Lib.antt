pub mod HolderLemmas
pub mod TradeLemmas
pub mod FreeLemmas
