-- What is shown of processes and of open files.
use Rattle.std.specs.Prelude.{None, Option, Some, sum_by, ℕ}
use Rattle.files.specs.Counts.{names}
use Rattle.kernel.specs.declared.kernel.show.ShownProcess.{ShownProcess}
use Rattle.proc.specs.declared.process.Process.{Process}
use Rattle.unixmodel.specs.Process as unix
use Rattle.unixmodel.specs.State.{State}

-- a process of the abstract Unix, without its memory and its size
abbrev pub bare : unix.Process → Process
bare p = record {
  pid = p.pid;
  parent = p.parent;
  registers = p.registers;
  pc = p.pc;
  descriptors = p.descriptors;
  directory = p.directory;
  killed = p.killed;
  mode = p.mode;
}

-- the same, with the size
abbrev pub shown_as : unix.Process → ShownProcess
shown_as p = record { process = bare p; size = p.size }

-- how many descriptors of a slot's process name open file n
abbrev pub naming : ℕ → Option unix.Process → ℕ
naming n None = 0
naming n (Some p) = names n p.descriptors

-- how many descriptors of all processes do
abbrev pub descriptors_on : State → ℕ → ℕ
descriptors_on s n = sum_by (naming n) s.places
