-- The names from elsewhere that the lemmas of this crate import, in one file. Declares nothing.
pub use Rattle.std.proofs.Common.{◌%◌, ◌*◌, ◌+◌, ◌++◌, ◌-◌, ◌/◌, ◌<◌, [], ◌^◌, ap, arith, bit_and, Bool, eq-eqb, false}
pub use Rattle.std.proofs.Common.{get_or, get_or-set_other, inl, inr, leb, length, length-append, length-set, List, ltb}
pub use Rattle.std.proofs.Common.{None, Option, refl, replicate, slice_set, Some, subst, sym, true, unwrap_or, ℕ, ◌∙◌}
pub use Rattle.std.proofs.Common.{◌∷◌, ◌≡◌, ◌≢◌, ◌≤◌, ◌⊎◌}
pub use Rattle.std.proofs.lemmas.Bool.{cases_eq, cases_lt, eqb-true, le-leb, lt-ltb, ne_eqb}
pub use Rattle.std.proofs.lemmas.Nat.{and_assoc, div-mul-add, mod-mul-add}
pub use Rattle.frames.proofs.FreeLemmas.{among_first, among_first_not, apart-not, free_of-same, further-free}
pub use Rattle.frames.proofs.FreeLemmas.{IsFreeList-same, shared-is}
pub use Rattle.frames.specs.Free.{among, free_count, further_at, IsFreeList, SameBut}
unfoldable pub use Rattle.frames.specs.Free.{extra_of, free_of}
pub use Rattle.frames.specs.declared.Frames.{Frames}
pub use Rattle.ram.proofs.MemoryLemmas.{Ram}
pub use Rattle.ram.specs.Memory.{frame_of, IsMemory}
unfoldable pub use Rattle.ram.specs.Memory.{put, word_bytes}
pub use Rattle.sv39.proofs.WalkLemmas.{allows-is, canonical-is, walk_of-is}
pub use Rattle.sv39.specs.Entry.{has, turn_by, turn_of}
unfoldable pub use Rattle.sv39.specs.Entry.{allows, is_sound, is_table, marks_of, number_of}
pub use Rattle.sv39.specs.Walk.{base, follow, frame_at, is_canonical, then_at}
unfoldable pub use Rattle.sv39.specs.Walk.{entry_of, walk_high, walk_low, walk_mid, walk_of}
pub use Rattle.unixmodel.specs.Translation.{leaf_allows, walk_page}
pub use Rattle.unixmodel.specs.declared.trap.Access.{Access}
pub use Rattle.pagetable.specs.Shape.{Adds, IsEmpty, IsLast, IsTidy, IsUsed, made_by, Removes, table_of}
unfoldable pub use Rattle.pagetable.specs.Shape.{made}
pub use Rattle.pagetable.specs.Tree.{a_leaf, a_table, child_at, HasTable, Inserts, IsEntry, IsLeafEntry, IsLeafMarks}
pub use Rattle.pagetable.specs.Tree.{IsNode, IsPaged, IsTableEntry, IsTree, IsUpper, Keeps, leaf_at, leaf_entry, Links}
pub use Rattle.pagetable.specs.Tree.{Low, low_node, Mid, mid_node, missing_by, next_node, no_leaf, no_table, Node, Root}
pub use Rattle.pagetable.specs.Tree.{SameMap, SameTables, table_entry, Writes}
unfoldable pub use Rattle.pagetable.specs.Tree.{child_of, leaf_of, lookup_of, missing, table_at}
