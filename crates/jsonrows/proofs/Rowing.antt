-- The rows of descriptors, one after another.
use Rattle.std.proofs.Common.{List, None, Option, add-one, ap, slice_index_or, ℕ, ◌++◌, ◌+◌, ◌≡◌}
use Rattle.jsonrows.specs.Rows.{row_of, rows_below}
use Rattle.machine.specs.declared.holdings.Opened.{Opened}

pub rows_more : (descriptors : List (Option Opened)) (n : ℕ)
    → rows_below descriptors (n + 1) ≡ rows_below descriptors n ++ row_of n (slice_index_or descriptors n None)
unfolding rows_below
rows_more descriptors n = ap (rows_below descriptors) (add-one n)
