-- The calls by their numbers.
use Rattle.std.specs.Prelude.{ℕ, ◌<◌, ◌≤◌}

-- there are 21
abbrev pub IsCall : ℕ → Type 0
IsCall n = (0 < n) × (n ≤ 21)
