-- Words for reads of a file.
use Rattle.std.specs.Prelude.{◌≡◌, ℕ, ◌-◌, ◌++◌, List, drop, length, min}
use Rattle.blockdev.specs.Splice.{part}

-- k of a file's bytes are read from offset `at` on, as many as there are and as there is room for
pub record IsReadInto (bytes : List ℕ) (at : ℕ) (old new : List ℕ) (k : ℕ) : Type 0 where
  pub count : k ≡ min (length old) (length bytes - at)
  pub read : new ≡ part at k bytes ++ drop k old
