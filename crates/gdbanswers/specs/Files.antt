-- The files that gdb has opened, by the numbers from 1 on.
use Rattle.std.specs.Prelude.{List, None, Option, Some, is_some, length, slice_index_or, slice_set, suc, true, zero, ℕ}
use Rattle.std.specs.Prelude.{◌<◌, ◌≡◌, ◌≢◌}

-- the open file with a number
abbrev pub file_at : {A : Type 0} → List (Option A) → ℕ → Option A
file_at files zero = None
file_at files (suc index) = slice_index_or files index None

-- the file with a number is closed
abbrev pub closed : {A : Type 0} → List (Option A) → ℕ → List (Option A)
closed files zero = files
closed files (suc index) = slice_set files index None

-- no file that was opened is closed
abbrev pub AllOpen : {A : Type 0} → List (Option A) → Type 0
AllOpen files = (index : ℕ) → index < length files → is_some (slice_index_or files index None) ≡ true

-- a number that none had is that of a new file, and the others are as they were
pub record Opens {A : Type 0} (old new : List (Option A)) (bytes : A) (number : ℕ) : Type 0 where
  pub free : file_at old number ≡ None
  pub here : file_at new number ≡ Some bytes
  pub others : (other : ℕ) → other ≢ number → file_at new other ≡ file_at old other
