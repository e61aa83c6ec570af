-- Whether a process has not ended, and which of these gdb holds.
use Rattle.std.specs.Prelude.{Bool, List, None, Option, Some, cond, false, option_map, true, ℕ, ◌&&◌, ◌-◌, ◌^◌}
use Rattle.gdbmotions.specs.Points.{holds}
use Rattle.machine.specs.declared.seen.ProcessState.{ProcessState}
use Rattle.machine.specs.declared.seen.ProcessState.TheVariants.{Zombie}
use Rattle.machine.specs.declared.seen.Seen.{Seen}
use Rattle.machine.specs.Seen.{seen_of}
use Rattle.unixmodel.specs.Shown.{shown_process}
use Rattle.unixmodel.specs.State.{State}
use Rattle.waits.specs.Pids.{by_pid}

abbrev pub goes_on : ProcessState → Bool
goes_on (Zombie status) = false
goes_on _ = true

-- there is a process, and it has not ended
abbrev pub is_alive : Option Seen → Bool
is_alive None = false
is_alive (Some seen) = goes_on seen.state

-- the pid of a process that has not ended and that gdb has not let go
abbrev pub held : State → List ℕ → ℕ → Option ℕ
held s released pid =
    cond (is_alive (option_map seen_of (shown_process s pid)) && holds released pid) (Some pid) None

-- the pids of all of them, in their order
unfoldable pub all_held : State → List ℕ → List ℕ
all_held s released = by_pid (held s released) (2 ^ 32 - 1)
