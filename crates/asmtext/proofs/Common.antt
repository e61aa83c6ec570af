-- The names that the lemmas of this crate import from other crates, passed on here. Declares nothing.
pub use Rattle.std.proofs.Common.{◌%◌, ◌+◌, ◌++◌, ◌-◌, ◌<◌, ◌==◌, [], ◌^◌, add-one, ap, append_assoc, ap₂, arith, Bool}
pub use Rattle.std.proofs.Common.{Bor, bytes_eq, codes, cond, drop, drop-cons, false, fold, get_or, if◌then◌else◌}
pub use Rattle.std.proofs.Common.{length, List, map, nat_le, nat_lt, neg_ℤ, negsuc, None, not, Option, option_map, pos}
pub use Rattle.std.proofs.Common.{refl, reverse, rules, slice_index_or, Some, suc, sym, take, tests, true, zero, ℕ, ℤ}
pub use Rattle.std.proofs.Common.{◌∙◌, ◌∷◌, ◌≡◌, ◌≤◌}
pub use Rattle.std.proofs.lemmas.Bool.Decides.{nat_tests}
pub use Rattle.std.proofs.lemmas.Iterator.Consumers.{map_from_collect}
pub use Rattle.std.proofs.lemmas.Iterator.Splits.{YieldsList-from_slice_split}
pub use Rattle.std.proofs.lemmas.List.{length-map, map-append, map_more, map_push, reverse-append}
pub use Rattle.std.proofs.lemmas.List.Sums.{fold_more, prefix_len_is}
pub use Rattle.std.proofs.lemmas.Simd.{map-map}
pub use Rattle.std.specs.List.{drop-map, onto_first, position_or_len, prefix_len, slice_split, suffix_len, take-map}
pub use Rattle.std.specs.Str.Parse.{digits_value}
unfoldable pub use Rattle.unixmodel.specs.Names.{register_names, register_numbers}
pub use Rattle.asmtext.specs.Numbers.{base_of, field_within}
pub use Rattle.asmtext.specs.Statements.{line_seen}
pub use Rattle.asmtext.specs.Symbols.{is_blank_symbol, is_comma, part_seen, parts_seen, reader_of, symbol_of}
