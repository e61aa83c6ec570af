mod Common
pub mod Whole
pub mod PipesLemmas
