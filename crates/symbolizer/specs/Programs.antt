-- Programs of an image.
use Rattle.std.specs.Prelude.{Bool, List, [], ◌∷◌, ◌≡◌, ◌==◌, ◌&&◌, false, true, ℕ}
use Rattle.symbolizer.specs.declared.searching.Program.{Program}

-- whether a file begins as an ELF file
abbrev pub is_program : List ℕ → Bool
is_program [] = false
is_program (a ∷ []) = false
is_program (a ∷ b ∷ []) = false
is_program (a ∷ b ∷ c ∷ []) = false
is_program (a ∷ b ∷ c ∷ d ∷ rest) = a == 127 && b == 69 && c == 76 && d == 70

abbrev pub IsProgram : Program → Type 0
IsProgram program = is_program program.file.items ≡ true
