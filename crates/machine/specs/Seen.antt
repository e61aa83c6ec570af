-- A process of the abstract Unix, as a machine reports it.
use Rattle.machine.specs.declared.seen.ProcessState.{ProcessState}
use Rattle.machine.specs.declared.seen.ProcessState.TheVariants as state
use Rattle.machine.specs.declared.seen.Seen.{Seen}
use Rattle.std.specs.Prelude.{ℕ}
use Rattle.unixmodel.specs.declared.call.Call.{Call}
use Rattle.unixmodel.specs.declared.call.Call.TheVariants.{Chdir, Close, Dup, Exec, Exit, Fork, Fstat, Getpid, Kill}
use Rattle.unixmodel.specs.declared.call.Call.TheVariants.{Link, Mkdir, Mknod, Open, Pipe, Read, Sbrk, Sleep, Unlink}
use Rattle.unixmodel.specs.declared.call.Call.TheVariants.{Uptime, Wait, Write}
use Rattle.unixmodel.specs.declared.process.Mode.{Mode}
use Rattle.unixmodel.specs.declared.process.Mode.TheVariants.{Ready, Running, Waiting, Zombie}
use Rattle.proc.specs.declared.process.Process as table
use Rattle.unixmodel.specs.Process.{Process}

-- the number of a call
abbrev pub number_of : Call → ℕ
number_of Fork = 1
number_of Exit = 2
number_of Wait = 3
number_of Pipe = 4
number_of Read = 5
number_of Kill = 6
number_of Exec = 7
number_of Fstat = 8
number_of Chdir = 9
number_of Dup = 10
number_of Getpid = 11
number_of Sbrk = 12
number_of Sleep = 13
number_of Uptime = 14
number_of Open = 15
number_of Write = 16
number_of Mknod = 17
number_of Unlink = 18
number_of Link = 19
number_of Mkdir = 20
number_of Close = 21

abbrev pub state_seen : Mode → ProcessState
state_seen Running = state.Running
state_seen Ready = state.Ready
state_seen (Waiting w) = state.Waiting (number_of w.number)
state_seen (Zombie status) = state.Zombie status

abbrev pub seen_of : Process → Seen
seen_of p = record {
  pid = p.pid;
  parent = p.parent;
  registers = p.registers;
  pc = p.pc;
  size = p.size;
  killed = p.killed;
  state = state_seen p.mode;
}

-- the same, from what the table has of it, and its size
abbrev pub told_as : table.Process → ℕ → Seen
told_as p size = record {
  pid = p.pid;
  parent = p.parent;
  registers = p.registers;
  pc = p.pc;
  size = size;
  killed = p.killed;
  state = state_seen p.mode;
}
