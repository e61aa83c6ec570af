-- The least pid above another.
use Rattle.std.specs.Prelude.{Bool, MatchOption, None, Option, Some, false, if◌then◌else◌, nat_lt, true, ℕ, ◌<◌, ◌≡◌}

-- no pid above that one is there
abbrev pub NoneAbove : (ℕ → Bool) → ℕ → Type 0
NoneAbove there after = (q : ℕ) → after < q → there q ≡ false

-- pid is there, above another, and none between them is
pub record IsLeastAbove (there : ℕ → Bool) (after pid : ℕ) : Type 0 where
  pub above : after < pid
  pub stands : there pid ≡ true
  pub between : (q : ℕ) → after < q → q < pid → there q ≡ false

-- the least of those that are there above another, if there is one
abbrev pub IsNextOf : (ℕ → Bool) → ℕ → Option ℕ → Type 0
IsNextOf there after result = MatchOption result (NoneAbove there after) (IsLeastAbove there after)

-- the lesser of the pid that was found and another, which counts where it is above `after`
abbrev pub lesser : Option ℕ → ℕ → ℕ → Option ℕ
lesser None after pid = if nat_lt after pid then Some pid else None
lesser (Some least) after pid =
    if nat_lt least pid then Some least else if nat_lt after pid then Some pid else Some least
