-- Why a motion ends.
use Rattle.std.specs.Prelude.{Bool, List, None, Option, Some, false, get_or, is_some, length, nat_le, nat_lt}
use Rattle.std.specs.Prelude.{option_and_then, option_map, slice_index, true, ℕ, ◌&&◌, ◌==◌, ◌||◌}
use Rattle.std.specs.List.{list_any}
use Rattle.next_fault.specs.Causes.{memory_shown, trap_shown}
use Rattle.gdbstate.specs.Accesses.{access_at}
use Rattle.gdbstate.specs.declared.reasons.Break.{Break}
use Rattle.gdbstate.specs.declared.reasons.Reasons.{Reasons}
use Rattle.gdbstate.specs.declared.reasons.Stepping.{Stepping}
use Rattle.gdbstate.specs.Watches.{watch_changed}
use Rattle.hart.specs.Stops.{is_stop}
use Rattle.kernel.specs.Idle.{running_pid}
use Rattle.machine.specs.declared.seen.Seen.{Seen}
use Rattle.machine.specs.Seen.{seen_of}
use Rattle.unixmodel.specs.declared.instr.Instr.{Instr}
use Rattle.unixmodel.specs.declared.instr.Instr.TheVariants.{Ecall}
use Rattle.unixmodel.specs.declared.trap.Access.TheVariants.{Fetch}
use Rattle.unixmodel.specs.Memory.{Memory, bytes_at, page_for}
use Rattle.unixmodel.specs.Numbers.{number}
use Rattle.unixmodel.specs.Shown.{shown_process}
use Rattle.unixmodel.specs.State.{State}
use Rattle.unixmodel.specs.Words.{instruction_of}

abbrev pub break_at : ℕ → ℕ → Break → Bool
break_at pid address b = (b.pid == pid) && (b.address == address)

-- a process has a break at its address
abbrev pub has_break : Reasons → ℕ → ℕ → Bool
has_break r pid pc = is_stop r.addresses.items pc && list_any (break_at pid pc) r.breaks.items

-- a step of the process is done: it is at an instruction that is not within the addresses
abbrev pub is_stepped : Option Stepping → ℕ → ℕ → Bool
is_stepped None pid pc = false
is_stepped (Some s) pid pc = (s.pid == pid) && (nat_lt pc s.from || nat_le s.end pc)

-- the word at an address, where it may be fetched
abbrev pub word_in : Memory → ℕ → Option ℕ
word_in memory pc = option_map (λ page. number (bytes_at 4 pc page)) (page_for Fetch memory pc)

-- it is that of the instruction that calls
abbrev pub calls_as : Option Instr → Bool
calls_as (Some Ecall) = true
calls_as _ = false

abbrev pub is_ecall : Option ℕ → Bool
is_ecall None = false
is_ecall (Some word) = calls_as (instruction_of word)

-- the next instruction is one of some calls
abbrev pub at_call : List ℕ → State → Seen → Bool
at_call calls s seen = is_stop calls (slice_index seen.registers 17)
    && is_ecall (word_in (memory_shown s seen.pid) seen.pc)

abbrev pub faults : Bool → State → ℕ → Bool
faults at_faults s pid = at_faults && is_some (option_and_then trap_shown (shown_process s pid))

-- the next instruction of a process loads or stores bytes that are watched
abbrev pub has_access : Reasons → State → ℕ → Bool
has_access r s pid = list_any (access_at s pid) r.accesses.items

-- a motion ends where this process runs
abbrev pub stops_at : Reasons → State → Seen → Bool
stops_at r s seen = has_break r seen.pid seen.pc || is_stepped r.stepping seen.pid seen.pc
    || at_call r.calls.items s seen || faults r.at_faults s seen.pid || has_access r s seen.pid

abbrev pub stops_seen : Reasons → State → Option Seen → Bool
stops_seen r s None = false
stops_seen r s (Some seen) = stops_at r s seen

abbrev pub stops_pid : Reasons → State → Option ℕ → Bool
stops_pid r s None = false
stops_pid r s (Some pid) = stops_seen r s (option_map seen_of (shown_process s pid))

-- a motion ends because of the process that runs
abbrev pub stops_who_runs : Reasons → State → Bool
stops_who_runs r s = stops_pid r s (running_pid s)

-- watched bytes are others than they were
abbrev pub changed : Reasons → State → Bool
changed r s = list_any (watch_changed s) r.watched.items

unfoldable pub stops : Reasons → State → Bool
stops r s = changed r s || stops_who_runs r s
