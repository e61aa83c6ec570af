mod Common
mod AssembleLemmas
mod DistanceLemmas
mod EmitLemmas
mod FileLemmas
mod LabelLemmas
mod LayoutLemmas
