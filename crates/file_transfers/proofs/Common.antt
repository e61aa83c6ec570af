-- The names from elsewhere that the lemmas of this crate import, in one file. Declares nothing.
pub use Rattle.std.proofs.Common.{◌%◌, ◌*◌, ◌+◌, ◌++◌, ◌-◌, ◌/◌, ◌<◌, [], ◌^◌, ap, append-nil, append_assoc, arith}
pub use Rattle.std.proofs.Common.{Bool, drop, Err, false, inl, inr, is_some, length, List, map, min, None, Ok, Option}
pub use Rattle.std.proofs.Common.{refl, replicate, Result, rules, slice_set, Some, subst, suc, sym, take, true}
pub use Rattle.std.proofs.Common.{unwrap_or, zero, ℕ, ◌∙◌, ◌∷◌, ◌≡◌, ◌≤◌, ◌⊎◌}
pub use Rattle.std.proofs.Math.Seq.{drop-append-add, take-add, take-append-add}
pub use Rattle.std.proofs.lemmas.Bool.{and_from, and_left, and_right, cases_Bool, cases_eq, cases_lt, cond-false}
pub use Rattle.std.proofs.lemmas.Bool.{cond-true, false≢true, le-leb, leb-false, leb-true, lt-leb}
pub use Rattle.std.proofs.lemmas.List.{drop-append-le, drop-drop, drop-map, drop_all, get_or-set_same, length-append}
pub use Rattle.std.proofs.lemmas.List.{length-drop, length-replicate, length-take, length-take-le, map-append}
pub use Rattle.std.proofs.lemmas.List.{set-get_or, set-set, take-append-drop, take-append-le, take-take, take_all}
pub use Rattle.std.proofs.lemmas.List.{take_at, take_min}
pub use Rattle.std.specs.Prelude.{◌&&◌, cond, if◌then◌else◌, nat_le, OnErr, slice_get}
pub use Rattle.spaces.specs.Spaces.{has_space, no_pages, Spaces, SpaceView, view_at, with_view}
pub use Rattle.tree.specs.Tree.{FileTree, Serves}
pub use Rattle.unixmodel.specs.Files.{Files, longest, Node, node_bytes, put, slot}
pub use Rattle.unixmodel.specs.Files.Node.{File}
pub use Rattle.unixmodel.specs.Memory.{can_write, Memory, overwrite, Page, Perm, permits, read_bytes, write_from}
unfoldable pub use Rattle.unixmodel.specs.Memory.{reach, write_bytes}
pub use Rattle.unixmodel.specs.declared.trap.Access.TheVariants.{Load, Store}
pub use Rattle.vm.proofs.ReachLemmas.{length-piece, length-reach, page-there, reach-drop, reach-front, reach-next}
pub use Rattle.vm.proofs.ReachLemmas.{reach-page}
pub use Rattle.vm.proofs.StoreLemmas.{write-none}
pub use Rattle.vm.specs.Reach.{IsSized, piece_at}
unfoldable pub use Rattle.vm.specs.Reach.{run_of}
pub use Rattle.file_transfers.specs.Moved.{bytes_given, bytes_of, bytes_read, IsRead, Reads, ReadsSome, with_read}
