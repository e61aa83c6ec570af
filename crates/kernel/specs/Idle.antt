-- Whether anything goes on: who runs, who is ready, and who sleeps.
use Rattle.std.specs.Prelude.{Bool, List, Option, false, is_none, option_and_then, not, option_map, true, ℕ, ◌&&◌}
use Rattle.std.specs.List.{list_any}
use Rattle.kernel.specs.Ready.{has_slept}
use Rattle.unixmodel.specs.declared.call.Call.{Call}
use Rattle.unixmodel.specs.declared.call.Call.TheVariants.{Sleep}
use Rattle.unixmodel.specs.declared.process.Mode.{Mode}
use Rattle.unixmodel.specs.declared.process.Mode.TheVariants.{Ready, Running, Waiting, Zombie}
use Rattle.unixmodel.specs.Process.{Process}
use Rattle.unixmodel.specs.State.{State, holds, process_at, running}
use Rattle.unixmodel.specs.Turn.{turn}

-- the process that runs, and its pid
abbrev pub running_process : State → Option Process
running_process s = option_and_then (process_at s) (running s)

abbrev pub running_pid : State → Option ℕ
running_pid s = option_map (λ (p : Process). p.pid) (running_process s)

-- what a hart has of a process: the registers and the pc
abbrev pub on_hart_of : Process → List ℕ × ℕ
on_hart_of p = (p.registers, p.pc)

-- no process runs, and none is ready: a step changes nothing
abbrev pub is_idle : State → Bool
is_idle s = is_none (running s) && is_none (turn s)

-- the pid of the process that a turn picks
abbrev pub picked_pid : State → Option ℕ
picked_pid s = option_map (λ (p : Process). p.pid) (option_and_then (process_at s) (turn s))

-- ---- who sleeps

abbrev pub is_sleep : Call → Bool
is_sleep Sleep = true
is_sleep _ = false

abbrev pub is_sleeping_mode : Mode → Bool
is_sleeping_mode Running = false
is_sleeping_mode Ready = false
is_sleeping_mode (Waiting w) = is_sleep w.number
is_sleeping_mode (Zombie status) = false

abbrev pub is_sleeping : Process → Bool
is_sleeping p = is_sleeping_mode p.mode

-- a process waits in sleep, so time alone can make it ready
abbrev pub is_anyone_asleep : State → Bool
is_anyone_asleep s = list_any (holds is_sleeping) s.places

-- a process waits in a sleep that isn't over at a count of ticks
abbrev pub sleeps_on_at : ℕ → Mode → Bool
sleeps_on_at ticks Running = false
sleeps_on_at ticks Ready = false
sleeps_on_at ticks (Waiting w) = is_sleep w.number && not (has_slept ticks w)
sleeps_on_at ticks (Zombie status) = false

abbrev pub sleeps_on : ℕ → Process → Bool
sleeps_on ticks p = sleeps_on_at ticks p.mode

-- a process waits in a sleep that isn't over, so a tick changes how long it still waits
abbrev pub is_time_awaited : State → Bool
is_time_awaited s = list_any (holds (sleeps_on s.ticks)) s.places
