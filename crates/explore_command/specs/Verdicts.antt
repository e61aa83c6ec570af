-- The status to exit with.
use Rattle.std.specs.Prelude.{Bool, false, true, ℕ, suc, zero, ◌&&◌}
use Rattle.explore_command.specs.declared.verdict.Verdict.{Verdict}

-- of n outcomes, each of which is wanted
abbrev pub status_by : Bool → ℕ → ℕ
status_by is_whole zero = 3
status_by true (suc zero) = 0
status_by false (suc zero) = 3
status_by is_whole (suc (suc more)) = 1

abbrev pub status_if : Bool → Bool → ℕ → ℕ
status_if false is_whole outcomes = 1
status_if true is_whole outcomes = status_by is_whole outcomes

abbrev pub status_of : Verdict → ℕ
status_of v = status_if v.is_wanted v.is_whole v.outcomes
