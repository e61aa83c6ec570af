-- A process, as a session shows it in numbers.
use Rattle.std.specs.Prelude.{Bool, Option, false, option_map, pos, true, ℕ, ℤ}
use Rattle.machine.specs.declared.seen.ProcessState.{ProcessState}
use Rattle.machine.specs.declared.seen.ProcessState.TheVariants.{Ready, Running, Waiting, Zombie}
use Rattle.machine.specs.declared.seen.Seen.{Seen}
use Rattle.machine.specs.Seen.{seen_of}
use Rattle.session.specs.declared.told.ProcessTold.{ProcessTold}
use Rattle.unixmodel.specs.Shown.{shown_process}
use Rattle.unixmodel.specs.Process.{Process}
use Rattle.unixmodel.specs.State.{State}

abbrev pub flag : Bool → ℕ
flag false = 0
flag true = 1

abbrev pub state_told : ProcessState → ℕ
state_told Running = 1
state_told Ready = 2
state_told (Waiting call) = 3
state_told (Zombie status) = 4

abbrev pub call_told : ProcessState → ℕ
call_told Running = 0
call_told Ready = 0
call_told (Waiting call) = call
call_told (Zombie status) = 0

abbrev pub status_told : ProcessState → ℤ
status_told Running = pos 0
status_told Ready = pos 0
status_told (Waiting call) = pos 0
status_told (Zombie status) = status

abbrev pub process_told : Seen → ProcessTold
process_told p = record {
  registers = p.registers;
  pc = p.pc;
  size = p.size;
  pid = p.pid;
  parent = p.parent;
  state = state_told p.state;
  call = call_told p.state;
  status = status_told p.state;
  killed = flag p.killed;
}

-- the process with a pid, if there is one
abbrev pub process_of : State → ℕ → Option ProcessTold
process_of s pid = option_map (λ (p : Process). process_told (seen_of p)) (shown_process s pid)
