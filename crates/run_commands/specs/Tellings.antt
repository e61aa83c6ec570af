-- What is reported of a run, and the status to exit with.
use Rattle.std.specs.Prelude.{Bool, if◌then◌else◌, is_some, min, option_map, ℕ, ◌%◌, ◌≡◌, ◌||◌, ◌⊎◌}
use Rattle.std.specs.Int.{cast_unsigned, w32}
use Rattle.std.specs.Int.NonZero.{non_zero_u64_get}
use Rattle.std.specs.declared.num.NonZeroU64.{NonZeroU64}
use Rattle.calls.specs.declared.halt.Halt.TheVariants as halt
use Rattle.commandline.specs.declared.jobs.Telling.{Telling}
use Rattle.host.specs.Reports.{status_of}
use Rattle.host.specs.declared.report.End.{End}
use Rattle.host.specs.declared.report.End.TheVariants.{Halted}
use Rattle.reports.specs.declared.teller.Wanted.{Wanted}

-- the process that a number names; there is none with a pid of more than 32 bits
abbrev pub named_pid : NonZeroU64 → ℕ
named_pid n = min (non_zero_u64_get n) 0xffff_ffff

-- anything is to be reported for which a run has to be watched
abbrev pub is_told : Telling → Bool
is_told t = t.report || (is_some t.json || (is_some t.registers || (is_some t.memory || t.faults)))

abbrev pub wanted_by : Telling → Wanted
wanted_by t = record {
  report = t.report;
  json = is_some t.json;
  registers = option_map named_pid t.registers;
  memory = option_map named_pid t.memory;
  faults = t.faults;
}

-- the low 8 bits of process 1's status, or 1 where it has not ended
abbrev pub status_of_init : End → ℕ
status_of_init (Halted (halt.InitEnded status)) = cast_unsigned w32 status % 0x100
status_of_init _ = 1

-- the status of process 1, if that is wanted
abbrev pub exit_status : Telling → End → ℕ
exit_status t e = if t.status then status_of_init e else status_of e

-- the status of a run that ended so, or 1 where something of it failed
abbrev pub IsEndStatus : Telling → End → ℕ → Type 0
IsEndStatus t e status = (status ≡ 1) ⊎ (status ≡ exit_status t e)
