-- What the sections of a file are.
use Rattle.std.specs.Prelude.{◌≡◌, List, ℕ}
use Rattle.sections.specs.declared.table.Sections.{Sections}
use Rattle.sections.specs.Headers.{names_of, sections_of}

pub record IsOf (file : List ℕ) (s : Sections) : Type 0 where
  pub bytes : s.file.now ≡ file
  pub list : s.list.items ≡ sections_of file
  pub names : s.names.now ≡ names_of file
