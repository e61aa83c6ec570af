-- What the next instruction of a process traps with, where that is no call.
use Rattle.std.specs.Prelude.{Err, List, None, Ok, Option, Some, [], if◌then◌else◌, option_map, ℕ, ◌≡◌}
use Rattle.next_fault.specs.declared.fault.Fault.{Fault}
use Rattle.unixmodel.specs.declared.instr.StoreOp.{StoreOp}
use Rattle.unixmodel.specs.declared.trap.Trap.{Trap}
use Rattle.unixmodel.specs.Meaning.{Effect, store}
use Rattle.unixmodel.specs.Memory.{Memory}
use Rattle.unixmodel.specs.Next.{effect_of, is_ecall}
use Rattle.unixmodel.specs.Process.{Process}
use Rattle.unixmodel.specs.Shown.{shown_process}
use Rattle.unixmodel.specs.State.{State}

abbrev pub trap_of : Effect → Option Trap
trap_of (Ok d) = None
trap_of (Err t) = if is_ecall t.cause then None else Some t

abbrev pub trap_shown : Process → Option Trap
trap_shown p = trap_of (effect_of p)

-- that trap, and the pc of the instruction that raises it
abbrev pub fault_shown : Process → Option (Trap × ℕ)
fault_shown p = option_map (λ trap. (trap, p.pc)) (trap_shown p)

-- the trap and the pc that are returned
abbrev pub told_in : Option Fault → Option (Trap × ℕ)
told_in told = option_map (λ fault. (fault.trap, fault.pc)) told

-- the memory of the process with a pid; no page where there is none
abbrev pub memory_of : Option Process → Memory
memory_of None = []
memory_of (Some p) = p.memory

abbrev pub memory_shown : State → ℕ → Memory
memory_shown s pid = memory_of (shown_process s pid)

-- so a store to an address traps, whatever the registers and the pc are
abbrev pub StoreTraps : Memory → StoreOp → ℕ → Option Trap → Type 0
StoreTraps memory op address told = (regs : List ℕ) (pc value : ℕ)
    → told ≡ trap_of (store regs pc memory op address value)
