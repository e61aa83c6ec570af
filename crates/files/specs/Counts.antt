-- How many descriptors name an open file, and that the table counts them.
use Rattle.std.specs.Prelude.{List, Option, cond, count_by, ℕ}
use Rattle.unixmodel.specs.Reap.{is_same}

-- how many of a process's descriptors name open file k
abbrev pub names : ℕ → List (Option ℕ) → ℕ
names k descriptors = count_by (is_same k) descriptors

abbrev pub one_in : ℕ → Option ℕ → ℕ
one_in k d = cond (is_same k d) 1 0
