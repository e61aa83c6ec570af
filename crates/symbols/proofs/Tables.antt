-- Entries of a table, one after the other.
use Rattle.std.proofs.Common.{◌≡◌, ℕ, ◌+◌, ◌-◌, ◌<◌, List, [], ◌++◌, length, take, drop, arith}
use Rattle.std.proofs.Common.{append_assoc, append-nil}
use Rattle.std.specs.Prelude.{flat_map}
use Rattle.sections.proofs.Reading.{pieces-more, pieces-none}
use Rattle.sections.specs.Headers.{pieces}
use Rattle.symbols.specs.declared.entry.Symbol.{Symbol}

module _ (f : List ℕ → List Symbol) (count i : ℕ) (rest : List ℕ) (so_far all : List Symbol)
    (so : so_far ++ flat_map f (pieces 24 (count - i) rest) ≡ all) where
  -- one more is read
  pub entry-more : (entry after : List ℕ) (new : List Symbol) → i < count → entry ≡ take 24 rest → after ≡ drop 24 rest
      → length after + 24 ≡ length rest → new ≡ so_far ++ f entry
      → new ++ flat_map f (pieces 24 (count - (i + 1)) after) ≡ all
  entry-more entry after new within front back has pushed =
      let more = pieces-more 24 count i rest within (omega arith) in
      rw (pushed, front, back, append_assoc) (rw more at so)

  -- the table ends before another
  pub entry-none : length rest < 24 → so_far ≡ all
  entry-none short =
      let none = pieces-none 24 (count - i) rest short in
      let whole : so_far ++ [] ≡ all = rw none at so in rw append-nil at whole
