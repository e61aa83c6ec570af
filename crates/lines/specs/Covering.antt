-- The row that covers an address, and the sequence that it is looked for in.
use Rattle.std.specs.Prelude.{◌≡◌, ◌<◌, ◌≤◌, ◌∷◌, ◌&&◌, [], Bool, List, None, Option, Some, ℕ, false, get_or}
use Rattle.std.specs.Prelude.{if◌then◌else◌, length, nat_le, nat_lt, slice_range}
use Rattle.std.specs.List.{All}
use Rattle.std.specs.List.Sorted.{IsNonDecreasingBy}
use Rattle.lines.specs.declared.rows.Row.{Row}
use Rattle.lines.specs.declared.rows.Sequence.{Sequence}

-- the rows of a sequence
abbrev pub rows_of : List Row → Sequence → List Row
rows_of rows s =
    if nat_le s.first s.after && nat_le s.after (length rows) then slice_range rows s.first s.after else []

-- whether the first of rows is above an address
abbrev pub is_above : ℕ → List Row → Bool
is_above address [] = false
is_above address (row ∷ rows) = nat_lt address row.address

-- the row at or below an address of which the next one is above it
abbrev pub covering : ℕ → List Row → Option Row
covering address [] = None
covering address (row ∷ rows) =
    if nat_le row.address address && is_above address rows then Some row else covering address rows

-- the addresses of rows do not fall
abbrev pub Rise : List Row → Type 0
Rise rows = IsNonDecreasingBy (λ (row : Row). row.address) rows

-- those of a sequence's rows
abbrev pub Rises : List Row → Sequence → Type 0
Rises rows s = Rise (rows_of rows s)

-- of the sequences that begin nearest to an address, at or below it, this is the first
pub record IsNearest (sequences : List Sequence) (address : ℕ) (sequence : Sequence) : Type 0 where
  pub index : ℕ
  pub within : index < length sequences
  pub is : (d : Sequence) → get_or sequences index d ≡ sequence
  pub below : sequence.start ≤ address
  pub nearest : All (λ (other : Sequence). other.start ≤ address → other.start ≤ sequence.start) sequences
  pub first : (k : ℕ) (d : Sequence) → k < index → (get_or sequences k d).start < sequence.start
