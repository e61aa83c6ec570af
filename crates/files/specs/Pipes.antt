-- A pipe exists while some open file is an end of it: a state's pipes, as files are opened and closed.
use Rattle.std.specs.Prelude.{List, Option, is_some, ℕ, ◌≡◌}
use Rattle.files.specs.Places.{has_pipe}
use Rattle.unixmodel.specs.Files.{slot}
use Rattle.unixmodel.specs.OpenFiles.{OpenFile}

-- the pipes that exist are those of which some open file is an end
abbrev pub IsPiped : List (Option (List ℕ)) → List (Option OpenFile) → Type 0
IsPiped pipes opens = (q : ℕ) → is_some (slot pipes q) ≡ has_pipe opens q
