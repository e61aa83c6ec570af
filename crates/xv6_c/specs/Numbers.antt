-- The numbers that the library returns.
use Rattle.std.specs.Prelude.{Err, None, Ok, Option, Result, Some, if◌then◌else◌, ℕ, ◌&&◌, ◌+◌}
use Rattle.calls.specs.declared.halt.Halt.{Halt}
use Rattle.calls.specs.declared.halt.Halt.TheVariants.{Console, Device, Halted, InitEnded}
use Rattle.machine.specs.declared.fault.BootFault.{BootFault}
use Rattle.machine.specs.declared.fault.BootFault.TheVariants as fault
use Rattle.machine.specs.declared.inodes.Stat.{Stat}
use Rattle.vm.specs.declared.Perm.{Perm}
use Rattle.xv6_c.specs.declared.told.StatTold.{StatTold}

abbrev pub halt_number : Halt → ℕ
halt_number (InitEnded status) = 1
halt_number Device = 2
halt_number Console = 3
halt_number Halted = 4

abbrev pub answer_number : {X : Type 0} → Result X Halt → ℕ
answer_number (Ok x) = 0
answer_number (Err halt) = halt_number halt

abbrev pub fault_number : BootFault → ℕ
fault_number (fault.Image f) = 1
fault_number fault.FrameCount = 2
fault_number fault.Device = 3
fault_number fault.NoMemory = 4
fault_number fault.NoInit = 5

-- 1, and what a program may do: 2 read, 4 write, 8 execute; 0 where there is no page
abbrev pub marks_number : Option Perm → ℕ
marks_number None = 0
marks_number (Some m) = 1 + (if m.u then 2 else 0) + (if m.u && m.w then 4 else 0) + (if m.u && m.x then 8 else 0)

-- a pid, or 0 where there is none
abbrev pub or_zero : Option ℕ → ℕ
or_zero None = 0
or_zero (Some pid) = pid

-- a node, all 0 where there is none
abbrev pub stat_told : Option Stat → StatTold
stat_told None = record { kind = 0; links = 0; size = 0 }
stat_told (Some s) = record { kind = s.kind; links = s.links; size = s.size }
