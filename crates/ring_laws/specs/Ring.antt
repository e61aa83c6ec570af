-- The bytes of a ring.
use Rattle.std.specs.Prelude.{[], List, slice_index, suc, zero, ℕ, ◌%◌, ◌+◌, ◌∷◌}

-- n bytes of a ring of `room` slots, from an index on, around the end
unfoldable pub ring : (room : ℕ) (places : List ℕ) (from n : ℕ) → List ℕ
ring room places from zero = []
ring room places from (suc n) = slice_index places (from % room) ∷ ring room places (from + 1) n
