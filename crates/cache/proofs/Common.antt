-- The names that the lemmas of this crate import from other crates, passed on here. Declares nothing.
pub use Rattle.std.proofs.Common.{◌&&◌, ◌+◌, ◌++◌, ◌-◌, ◌<◌, [], ◌^◌, ap, arith, Bool, Bor, cond, drop, Err, false}
pub use Rattle.std.proofs.Common.{Fits, get_or, inl, inr, length, List, min, MutBor, nat_eq, nat_le, None, Ok, OnErr}
pub use Rattle.std.proofs.Common.{OnOk, Option, refl, Result, set, slice_get, Some, subst, suc, sym, take, true, w64}
pub use Rattle.std.proofs.Common.{zero, ◌||◌, ℕ, ◌∙◌, ◌∷◌, ◌≡◌, ◌≢◌, ◌≤◌, ◌⊎◌}
pub use Rattle.std.proofs.lemmas.Bool.{and_from, and_parts, cases_eq, cases_lt, eq-eqb, false_from_ne_true, le-leb}
pub use Rattle.std.proofs.lemmas.Bool.{leb-true, ne_eqb, or_parts}
pub use Rattle.std.proofs.lemmas.List.{append_assoc, ext_get_or, get_or-set_other, get_or-set_same, length-append}
pub use Rattle.std.proofs.lemmas.List.{length-set, set-get_or, take_all}
pub use Rattle.std.proofs.lemmas.Map.Entries.{lookup_from_place, none_past_head}
pub use Rattle.std.proofs.lemmas.Option.{none-some, same_Some}
pub use Rattle.std.specs.Cmp.{nat_eq_equiv}
pub use Rattle.std.specs.List.{IsDistinct}
pub use Rattle.std.specs.Map.{keys_of, lookup, lookup_entry, remove_entry, set_value}
pub use Rattle.std.specs.Option.{option_copied, option_copied_mut, option_map, option_map_or, UnwrapsOrElse}
pub use Rattle.std.specs.Result.{is_err, is_ok, IsErrAnd}
pub use Rattle.blockdev.proofs.SpliceLemmas.{Blocks, length-splice, put_mid-splice}
pub use Rattle.blockdev.specs.Blocks.{AreBlocks, block_at}
pub use Rattle.blockdev.specs.Splice.{part, splice}
pub use Rattle.blockdev.specs.declared.DeviceFault.{DeviceFault}
pub use Rattle.lru.specs.LruCache.{IsValid, last_entry, lru_cache, LruCache, promoted, put_entries}
pub use Rattle.unixmodel.specs.Failures.{HasCause, Rises}
pub use Rattle.cache.specs.Disk.{Disk}
pub use Rattle.cache.specs.Next.{is_due, lower, next_of}
unfoldable pub use Rattle.cache.specs.Next.{scan}
pub use Rattle.cache.specs.Overlay.{cleaned, IsKept, IsLastSafe, kept_or, with_block}
unfoldable pub use Rattle.cache.specs.Overlay.{AreFlushed, AreKept, overlay}
pub use Rattle.cache.specs.Steps.{Goes, Reads, Steps}
pub use Rattle.cache.specs.declared.held.Slot.{Slot}
