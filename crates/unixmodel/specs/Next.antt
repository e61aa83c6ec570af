-- One event: a step, a timer interrupt or a typed byte.
-- From this project's profile; the instructions are RV64I's.
use Rattle.std.specs.Prelude.{Bool, Err, None, Ok, Option, Some, false, if◌then◌else◌, negsuc, true, ℕ, ◌%◌, ◌+◌, ◌^◌}
use Rattle.unixmodel.specs.declared.event.Event.{Event}
use Rattle.unixmodel.specs.declared.event.Event.TheVariants.{Key, Step, Tick}
use Rattle.unixmodel.specs.declared.process.Mode.{Mode}
use Rattle.unixmodel.specs.declared.process.Mode.TheVariants.{Ready, Running, Waiting, Zombie}
use Rattle.unixmodel.specs.declared.trap.Cause.{Cause}
use Rattle.unixmodel.specs.declared.trap.Cause.TheVariants.{Breakpoint, EnvironmentCall, IllegalInstruction}
use Rattle.unixmodel.specs.declared.trap.Cause.TheVariants.{InstructionMisaligned, InstructionPageFault, LoadMisaligned}
use Rattle.unixmodel.specs.declared.trap.Cause.TheVariants.{LoadPageFault, StoreMisaligned, StorePageFault}
use Rattle.unixmodel.specs.Calls.{After, call, quiet, resume}
use Rattle.unixmodel.specs.Console.{Keyed, key}
use Rattle.unixmodel.specs.Cycle.{cycle}
use Rattle.unixmodel.specs.Meaning.{Change, Computed, Effect}
use Rattle.unixmodel.specs.Meaning.Change.{Bytes, Nothing}
use Rattle.unixmodel.specs.Memory.{Memory, write_bytes}
use Rattle.unixmodel.specs.Outcome.{end_process}
use Rattle.unixmodel.specs.Process.{Process, with_mode}
use Rattle.unixmodel.specs.State.{State, change_process, process_at, put_process, running}
use Rattle.unixmodel.specs.Turn.{turn}

-- ---- an instruction

-- what an instruction writes into the memory
abbrev pub memory_after : Memory → Change → Memory
memory_after mem Nothing = mem
memory_after mem (Bytes address bytes) = write_bytes mem address bytes

abbrev pub process_after : Process → Computed → Process
process_after p d = record p { registers = d.regs; pc = d.pc; memory = memory_after p.memory d.change }

abbrev pub is_ecall : Cause → Bool
is_ecall EnvironmentCall = true
is_ecall InstructionMisaligned = false
is_ecall IllegalInstruction = false
is_ecall Breakpoint = false
is_ecall LoadMisaligned = false
is_ecall StoreMisaligned = false
is_ecall InstructionPageFault = false
is_ecall LoadPageFault = false
is_ecall StorePageFault = false

-- a trap is a call, or it ends the process with -1 and its pc stays
abbrev pub trapped : State → ℕ → Process → Cause → After
trapped s i p c = if is_ecall c then call s i p else quiet (end_process s i p (negsuc 0))

abbrev pub acted : State → ℕ → Process → Effect → After
acted s i p (Ok d) = quiet (put_process s i (process_after p d))
acted s i p (Err t) = trapped s i p t.cause

unfoldable pub effect_of : Process → Effect
effect_of p = cycle p.registers p.pc p.memory

-- the running process, in slot i, does an instruction
unfoldable pub execute : State → ℕ → Process → After
execute s i p = acted s i p (effect_of p)

-- ---- a turn

-- a picked process ends if it is killed; else it runs, or goes on with its call
abbrev pub picked_in : State → ℕ → Process → Mode → After
picked_in s i p Running = quiet s
picked_in s i p Ready = quiet (put_process s i (with_mode Running p))
picked_in s i p (Waiting w) = resume s i p w
picked_in s i p (Zombie status) = quiet s

abbrev pub picked : State → ℕ → Process → After
picked s i p = if p.killed then quiet (end_process s i p (negsuc 0)) else picked_in s i p p.mode

-- slot i is picked
abbrev pub pick : State → ℕ → Option Process → After
pick s i None = quiet s
pick s i (Some p) = picked (record s { last = i }) i p

abbrev pub take_turn : State → Option ℕ → After
take_turn s None = quiet s
take_turn s (Some i) = pick s i (process_at s i)

-- ---- the events

abbrev pub execute_at : State → ℕ → Option Process → After
execute_at s i None = quiet s
execute_at s i (Some p) = execute s i p

abbrev pub step : State → Option ℕ → After
step s (Some i) = execute_at s i (process_at s i)
step s None = take_turn s (turn s)

-- the running process becomes ready
abbrev pub stopped : State → Option ℕ → State
stopped s None = s
stopped s (Some i) = change_process s i (with_mode Ready)

abbrev pub tick : State → State
tick s = record (stopped s (running s)) { ticks = (s.ticks + 1) % 2 ^ 32 }

-- the console takes a typed byte, and prints what it echoes
abbrev pub typed : State → Keyed → After
typed s k = record { state = record s { console = k.console }; bytes = k.echo }

unfoldable pub next : State → Event → After
next s Step = step s (running s)
next s Tick = quiet (tick s)
next s (Key k) = typed s (key s.console k)
