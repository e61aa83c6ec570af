-- Counts of failures, by which a device and a writer report their errors.
-- From this project's profile: a count is a number of 64 bits that stops at its last value.
use Rattle.std.specs.Prelude.{IsErr, Result, min, ℕ, ◌+◌, ◌-◌, ◌^◌, ◌≤◌}

-- the count rose, or is at its last value, where a failure counts as a rise
abbrev pub Rises : ℕ → ℕ → Type 0
Rises before now = min (before + 1) (2 ^ 64 - 1) ≤ now

-- the count never falls, and an error is returned only where it rose
pub record HasCause {T E : Type 0} (before now : ℕ) (result : Result T E) : Type 0 where
  pub later : before ≤ now
  pub failed : IsErr result → Rises before now
