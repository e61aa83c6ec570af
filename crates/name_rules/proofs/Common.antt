-- The names from elsewhere that the lemmas of this crate import, in one file. Declares nothing.
pub use Rattle.std.proofs.Common.{◌*◌, ◌+◌, ◌++◌, ◌-◌, ◌<◌, [], ap, ap₂, arith, Bool, cond, drop, false, get_or, inl}
pub use Rattle.std.proofs.Common.{inr, length, List, map, None, not, Option, refl, set, Some, subst, suc, sym, take}
pub use Rattle.std.proofs.Common.{true, zero, ℕ, ◌∙◌, ◌∷◌, ◌≡◌, ◌≢◌, ◌≤◌, ◌⊎◌}
pub use Rattle.std.proofs.lemmas.Bool.{and_parts, cases_Bool, cases_eq, cases_lt, cond-false, cond-true, cond_both}
pub use Rattle.std.proofs.lemmas.Bool.{eq-eqb, eqb-true, false≢true, lt-ltb, ltb-true, ne_eqb, not-true, or_left}
pub use Rattle.std.proofs.lemmas.Bool.{or_parts, or_right}
pub use Rattle.std.proofs.lemmas.List.{ext_get_or, get_or-drop, get_or-set_other, get_or-set_same, get_or_past}
pub use Rattle.std.proofs.lemmas.List.{length-append, length-drop, length-set, length-take, nil_from_length, set-get_or}
pub use Rattle.std.proofs.lemmas.List.{set-set, set_comm}
pub use Rattle.std.proofs.lemmas.List.Elements.{All-head, All-tail}
pub use Rattle.std.proofs.lemmas.List.Quantifiers.{position-Some}
pub use Rattle.std.proofs.lemmas.List.Sums.{fails_before_first, get_or-le-sum_by, sum_by-append, sum_by-cons, sum_by-le}
pub use Rattle.std.proofs.lemmas.List.Sums.{sum_by-set}
pub use Rattle.std.proofs.lemmas.Option.{cond_some, none-some, option_and_then_some, same_Some}
pub use Rattle.std.proofs.lemmas.Slice.Eq.{bytes_eq-Decides}
pub use Rattle.std.specs.List.{list_all, range_with_len}
pub use Rattle.std.specs.Prelude.{◌==◌, All, bytes_eq, count_by, flat_map, if◌then◌else◌, is_none, is_some, IsSome}
pub use Rattle.std.specs.Prelude.{nat_lt, option_map, sum_by, unwrap_or, ◌||◌}
pub use Rattle.unixmodel.specs.Files.{change_node, clear, dot, dot_dot, Entry, Files, free_slot, is_directory}
pub use Rattle.unixmodel.specs.Files.{is_dot_name, links_of, longest, most_links, Node, put, slot, Spot, taken}
pub use Rattle.unixmodel.specs.Files.{with_entry_at, with_links}
unfoldable pub use Rattle.unixmodel.specs.Files.{
  enter,
  erase,
  find,
  free_number,
  lookup,
  parts,
  place_of,
  spot_of,
  with_entry,
}
pub use Rattle.unixmodel.specs.Files.Node.{Directory, File}
pub use Rattle.unixmodel.specs.Image.{entries_of, is_directory_at, is_name, KeepsSize}
unfoldable pub use Rattle.unixmodel.specs.Image.{all_entries, names_of}
pub use Rattle.unixmodel.specs.NameCalls.{emptied, Made, may_remove, removed_node, without_name}
unfoldable pub use Rattle.unixmodel.specs.NameCalls.{linked, made_at, made_directory, make_at, unlinked}
pub use Rattle.name_rules.specs.Changes.{Changed, IsIdle, Loses, shape, Stays, WasIdle}
pub use Rattle.name_rules.specs.Rules.{entries, HasRoot, IsAbove, IsLive, IsRanked, KeepsLive, KeepsTree, names_for}
unfoldable pub use Rattle.name_rules.specs.Rules.{folders, names_by}
