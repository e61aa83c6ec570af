-- Numbers as bytes.
use Rattle.std.specs.Prelude.{List, [], ℕ, ◌%◌, ◌+◌, ◌++◌, ◌/◌, ◌^◌, ◌∷◌}
use Rattle.std.specs.Int.{to_le_bytes, w16, w32, w64}

-- numbers of two, four and eight bytes
unfoldable pub half : ℕ → List ℕ
half n = to_le_bytes w16 n

unfoldable pub word : ℕ → List ℕ
word n = to_le_bytes w32 n

unfoldable pub double : ℕ → List ℕ
double n = to_le_bytes w64 n

-- the low 32 bits
abbrev pub small : ℕ → ℕ
small n = n % 2 ^ 32

-- seven bits that are not the last ones, in LEB128
abbrev pub piece : ℕ → ℕ
piece n = n % 128 + 128

-- `DW_LNS_advance_pc` with three bytes of LEB128, and `DW_LNS_advance_line` with four
abbrev pub with_address_advance : List ℕ → ℕ → List ℕ
with_address_advance out n = out ++ (2 ∷ piece n ∷ piece (n / 128) ∷ n / 16384 % 128 ∷ [])

abbrev pub with_line_advance : List ℕ → ℕ → List ℕ
with_line_advance out n = out ++ (3 ∷ piece n ∷ piece (n / 128) ∷ piece (n / 16384) ∷ n / 2097152 % 128 ∷ [])
