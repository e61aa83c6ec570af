-- The unit that names the line number program (DWARF 4, section 7.5).
use Rattle.std.specs.Prelude.{List, [], length, min, ℕ, ◌+◌, ◌++◌, ◌-◌, ◌^◌, ◌∷◌}
use Rattle.std.specs.Borrow.{Bor}
use Rattle.debug_sections.specs.Bytes.{double, half, small, word}

-- the name of the first file
abbrev pub first_name : List (Bor (List ℕ)) → List ℕ
first_name [] = []
first_name (file ∷ files) = file.now

-- version 4, abbreviations at 0, addresses of 8 bytes, abbreviation 1: a name, a language, the program at 0, from
-- address 0 on
unfoldable pub with_unit : List ℕ → List ℕ → ℕ → List ℕ
with_unit out name size = out ++ word (small (min (31 + length name) (2 ^ 64 - 1))) ++ half 4 ++ word 0
    ++ (8 ∷ 1 ∷ []) ++ name ++ (0 ∷ []) ++ half 0x8001 ++ word 0 ++ double 0 ++ double size
