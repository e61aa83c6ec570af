-- What becomes of a text.
use Rattle.std.specs.Prelude.{List, Ok, ⊤, ℕ, ◌≡◌}
use Rattle.assembly_texts.specs.declared.telling.Told.{Told}
use Rattle.assembly_texts.specs.declared.telling.Told.TheVariants.{Faults, Made}
use Rattle.unixmodel.specs.Assembly as the

-- the file is that of a text which `asm` takes
abbrev pub IsMadeOf : List ℕ → Type 0
IsMadeOf file = (text : List ℕ) × (the.assembled text ≡ Ok file)

abbrev pub IsTold : Told → Type 0
IsTold (Made file report) = IsMadeOf file.items
IsTold (Faults report) = ⊤
