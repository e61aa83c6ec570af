-- Whose lines are shown.
use Rattle.std.specs.Prelude.{None, Option, Some, ℕ, ◌≡◌}

-- the process with a pid is the one that is shown, or all are
abbrev pub IsOf : Option ℕ → ℕ → Type 0
IsOf None pid = Unit {0}
IsOf (Some only) pid = pid ≡ only
