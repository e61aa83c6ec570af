-- The names that the lemmas of this crate import from other crates, passed on here. Declares nothing.
pub use Rattle.std.proofs.Common.{[], ap, arith, length-append, rules, take, ◌∙◌, ◌∷◌, ◌≡◌}
pub use Rattle.kernel.proofs.Steps.{lost-reads, lost-then, read-then}
pub use Rattle.kernel.specs.Kernel.{Kernel, loaded, on_hart, state_of}
pub use Rattle.spaces.specs.Spaces.{has_space, SpaceView, view_at}
pub use Rattle.unixmodel.specs.Files.{slot}
pub use Rattle.unixmodel.specs.Shown.{bytes_or_none}
pub use Rattle.unixmodel.specs.State.{process_at}
pub use Rattle.digests.specs.Digest.{descriptors_mixed, mixed, node_mixed, open_mixed, pipe_mixed, place_mixed, start}
pub use Rattle.digests.specs.Digest.{word_mixed}
unfoldable pub use Rattle.digests.specs.Digest.{
  contents_mixed,
  each,
  files_mixed,
  mix,
  opens_mixed,
  pipes_mixed,
  places_mixed,
}
