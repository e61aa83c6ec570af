-- When the clock of a play strikes.
use Rattle.std.specs.Prelude.{Bool, false, true, if◌then◌else◌, nat_le, nat_lt, suc, zero, ℕ, ◌&&◌, ◌%◌, ◌*◌, ◌+◌}
use Rattle.std.specs.Prelude.{◌-◌, ◌/◌, ◌==◌, ◌^◌}
use Rattle.events.specs.declared.clock.Clock.{Clock}
use Rattle.events.specs.declared.clock.Clock.TheVariants.{Every, Off, Random}

-- what a step makes of the state of the generator
unfoldable pub stirred : ℕ → ℕ
stirred state = (state * 6364136223846793005 + 1442695040888963407) % 2 ^ 64

-- whether the clock strikes after the next step
abbrev pub strikes : Clock → Bool
strikes Off = false
strikes (Every steps left) = nat_le left 1
strikes (Random state steps) = nat_lt 0 steps && (stirred state / 2 ^ 32) % steps == 0

-- the clock after that step
abbrev pub passed : Clock → Clock
passed Off = Off
passed (Every steps left) = Every steps (if nat_le left 1 then steps else left - 1)
passed (Random state steps) = Random (stirred state) steps

-- the clock after n steps
unfoldable pub passed_by : ℕ → Clock → Clock
passed_by zero c = c
passed_by (suc n) c = passed_by n (passed c)

-- the steps at which it surely doesn't strike, as far as that is known before
abbrev pub quiet : Clock → ℕ
quiet Off = 4294967295
quiet (Every steps left) = left - 1
quiet (Random state steps) = 0

abbrev pub is_off : Clock → Bool
is_off Off = true
is_off _ = false

-- a clock that is set strikes after each n steps, or after one of n on average; none does where n is 0
abbrev pub every : ℕ → Clock
every n = if n == 0 then Off else Every n n

abbrev pub random : ℕ → ℕ → Clock
random seed n = if n == 0 then Off else Random seed n
