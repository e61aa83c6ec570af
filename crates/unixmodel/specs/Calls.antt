-- A system call: its row by the number in a7, and what its outcome makes of the state.
-- From xv6. A picked process that waits goes on by the same row from its pending call.
use Rattle.std.specs.Prelude.{List, None, Option, Some, [], if◌then◌else◌, negsuc, slice_get, suc, zero, ℕ, ℤ, ◌∷◌}
use Rattle.unixmodel.specs.declared.call.Call.{Call}
use Rattle.unixmodel.specs.declared.call.Call.TheVariants.{Chdir, Close, Dup, Exec, Exit, Fork, Fstat, Getpid, Kill}
use Rattle.unixmodel.specs.declared.call.Call.TheVariants.{Link, Mkdir, Mknod, Open, Pipe, Read, Sbrk, Sleep, Unlink}
use Rattle.unixmodel.specs.declared.call.Call.TheVariants.{Uptime, Wait, Write}
use Rattle.unixmodel.specs.declared.process.Mode.TheVariants.{Running, Waiting}
use Rattle.unixmodel.specs.declared.process.Pending.{Pending}
use Rattle.unixmodel.specs.FileCalls.{close_row, dup_row, fstat_row, pipe_row, read_on, read_row, write_on, write_row}
use Rattle.unixmodel.specs.NameCalls.{chdir_row, link_row, mkdir_row, mknod_row, open_row, unlink_row}
use Rattle.unixmodel.specs.Numbers.{low, number, plus}
use Rattle.unixmodel.specs.Outcome.{Outcome, end_process, limited, minus_one}
use Rattle.unixmodel.specs.Outcome.Outcome.{Done, Ends, Refused, Waits}
use Rattle.unixmodel.specs.Process.{Process, arg, with_answer, with_mode}
use Rattle.unixmodel.specs.ProcessCalls.{exec_row, exit_row, fork_row, getpid_row, kill_row, sbrk_row, sleep_on}
use Rattle.unixmodel.specs.ProcessCalls.{sleep_row, uptime_row, wait_on, wait_row}
use Rattle.unixmodel.specs.Reap.{reap}
use Rattle.unixmodel.specs.State.{State, change_process, process_at, put_process}

-- the calls by their numbers, from 1 on
abbrev pub calls : List Call
calls =
    Fork ∷ Exit ∷ Wait ∷ Pipe ∷ Read ∷ Kill ∷ Exec ∷ Fstat ∷ Chdir ∷ Dup ∷ Getpid
    ∷ Sbrk ∷ Sleep ∷ Uptime ∷ Open ∷ Write ∷ Mknod ∷ Unlink ∷ Link ∷ Mkdir ∷ Close ∷ []

abbrev pub call_of : ℕ → Option Call
call_of zero = None
call_of (suc n) = slice_get calls n

-- each call has its row
abbrev pub row : State → ℕ → Process → Call → Outcome
row s i p Fork = fork_row s i p
row s i p Exit = exit_row s i p
row s i p Wait = wait_row s i p
row s i p Pipe = pipe_row s i p
row s i p Read = read_row s i p
row s i p Kill = kill_row s i p
row s i p Exec = exec_row s i p
row s i p Fstat = fstat_row s i p
row s i p Chdir = chdir_row s i p
row s i p Dup = dup_row s i p
row s i p Getpid = getpid_row s i p
row s i p Sbrk = sbrk_row s i p
row s i p Sleep = sleep_row s i p
row s i p Uptime = uptime_row s i p
row s i p Open = open_row s i p
row s i p Write = write_row s i p
row s i p Close = close_row s i p
row s i p Mknod = mknod_row s i p
row s i p Unlink = unlink_row s i p
row s i p Link = link_row s i p
row s i p Mkdir = mkdir_row s i p

-- the row that a waiting call goes on by: these are the calls that can wait
abbrev pub goes_on : State → ℕ → Process → Pending → Call → Outcome
goes_on s i p w Wait = wait_on s i p w
goes_on s i p w Sleep = sleep_on s i p w
goes_on s i p w Read = read_on s i p w
goes_on s i p w Write = write_on s i p w
goes_on s i p w _ = Refused

-- a new state, and bytes for the console
pub record After : Type 0 where
  pub state : State
  pub bytes : List ℕ

abbrev pub quiet : State → After
quiet s = record { state = s; bytes = [] }

-- a process that marked itself gets its result, and then ends with -1
abbrev pub end_if_killed : State → ℕ → Option Process → State
end_if_killed s i None = s
end_if_killed s i (Some p) = if p.killed then end_process s i p (negsuc 0) else reap s

abbrev pub end_at : State → ℕ → ℤ → Option Process → State
end_at s i status None = s
end_at s i status (Some p) = end_process s i p status

-- what an outcome makes of the state; a refusal leaves state s, except for the result
abbrev pub settle : State → ℕ → Outcome → After
settle s i Refused = quiet (change_process s i (with_answer minus_one))
settle s i (Done new answer bytes) =
    let done = change_process new i (with_answer answer) in
    record { state = end_if_killed done i (process_at done i); bytes = bytes }
settle s i (Waits new w) = quiet (reap (change_process new i (with_mode (Waiting w))))
settle s i (Ends new status) = quiet (end_at new i status (process_at new i))

-- the number is the low 32 bits of a7; a number of no call is refused
abbrev pub outcome_of : State → ℕ → Process → Option Call → Outcome
outcome_of s i p None = Refused
outcome_of s i p (Some number) = limited (row s i p number)

abbrev pub outcome : State → ℕ → Process → Outcome
outcome s i p = outcome_of s i p (call_of (low (arg p 7)))

-- the pc advances by 4 as the call begins
abbrev pub entered : Process → Process
entered p = record p { pc = plus p.pc 4 }

-- the call of process p, which runs in slot i
unfoldable pub call : State → ℕ → Process → After
call s i p =
    let begun = put_process s i (entered p) in
    settle begun i (outcome begun i (entered p))

-- process p in slot i, picked, goes on with its pending call
unfoldable pub resume : State → ℕ → Process → Pending → After
resume s i p w =
    let begun = put_process s i (with_mode Running p) in
    settle begun i (goes_on begun i (with_mode Running p) w w.number)
