-- What calls on names return.
use Rattle.std.specs.Prelude.{Option, Some, ℕ, ◌<◌, ◌≡◌}
use Rattle.unixmodel.specs.Counts.{blocks_of}
use Rattle.unixmodel.specs.Files.{Files}

-- the definitions make no files, or files that take more blocks than there are
abbrev pub Overflows : ℕ → Option Files → Type 0
Overflows limit made = (files : Files) → made ≡ Some files → limit < blocks_of files
