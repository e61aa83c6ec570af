-- Who can end what a process waits for, and the row of that.
use Rattle.std.specs.Prelude.{Bool, List, None, Option, Some, cond, false, option_and_then, option_map, ℕ, ◌-◌, ◌==◌}
use Rattle.std.specs.Prelude.{[], if◌then◌else◌, true, ◌^◌, ◌∷◌, ◌≡◌}
use Rattle.jsonrows.specs.declared.waiting.WaitKind.{WaitKind}
use Rattle.jsonrows.specs.declared.waiting.WaitKind.TheVariants as kind
use Rattle.jsonrows.specs.declared.waiting.WaitingCall.{WaitingCall}
use Rattle.jsonrows.specs.declared.waiting.WaitingCall.TheVariants as call
use Rattle.jsonrows.specs.declared.waiting.WaitsRow.{WaitsRow}
use Rattle.machine.specs.declared.holdings.Holdings.{Holdings}
use Rattle.machine.specs.declared.seen.Seen.{Seen}
use Rattle.machine.specs.Holdings.{holdings_of}
use Rattle.machine.specs.Seen.{seen_of}
use Rattle.unixmodel.specs.Files.{slot}
use Rattle.unixmodel.specs.OpenFiles.{OpenFile, Target}
use Rattle.unixmodel.specs.OpenFiles.End.{ReadEnd, WriteEnd}
use Rattle.unixmodel.specs.OpenFiles.Target.{OnNode, OnPipe}
use Rattle.unixmodel.specs.Shown.{shown_process}
use Rattle.unixmodel.specs.State.{State}
use Rattle.waits.specs.declared.awaited.Wait.{Wait}
use Rattle.waits.specs.declared.awaited.Wait.TheVariants.{Bytes, Child, Console, Room, Tick}
use Rattle.waits.specs.Pids.{by_pid}

-- ---- who can end a wait

abbrev pub is_write_end : ℕ → Target → Bool
is_write_end pipe (OnNode number offset) = false
is_write_end pipe (OnPipe number ReadEnd) = false
is_write_end pipe (OnPipe number WriteEnd) = number == pipe

abbrev pub is_read_end : ℕ → Target → Bool
is_read_end pipe (OnNode number offset) = false
is_read_end pipe (OnPipe number ReadEnd) = number == pipe
is_read_end pipe (OnPipe number WriteEnd) = false

-- an open file is the other end of the pipe that is waited for
abbrev pub is_other_end : Wait → Target → Bool
is_other_end Child target = false
is_other_end Console target = false
is_other_end (Bytes pipe) target = is_write_end pipe target
is_other_end (Room pipe) target = is_read_end pipe target
is_other_end (Tick tick) target = false

abbrev pub file_ends : Wait → Option OpenFile → Bool
file_ends wait None = false
file_ends wait (Some file) = is_other_end wait file.target

abbrev pub descriptor_ends : State → Wait → Option ℕ → Bool
descriptor_ends s wait file = file_ends wait (option_and_then (slot s.opens) file)

abbrev pub any_ends : State → Wait → List (Option ℕ) → Bool
any_ends s wait [] = false
any_ends s wait (file ∷ files) = if descriptor_ends s wait file then true else any_ends s wait files

-- a process has a descriptor on the other end
abbrev pub has_other_end : State → Wait → Option Holdings → Bool
has_other_end s wait None = false
has_other_end s wait (Some held) = any_ends s wait held.descriptors

abbrev pub is_child : ℕ → Option Seen → Bool
is_child parent None = false
is_child parent (Some seen) = seen.parent == parent

-- the process with a pid is a child of the one that waits, or has the other end of its pipe
abbrev pub can_end : State → ℕ → ℕ → Wait → Bool
can_end s pid waiter Child = is_child waiter (option_map seen_of (shown_process s pid))
can_end s pid waiter Console = false
can_end s pid waiter (Bytes pipe) = has_other_end s (Bytes pipe) (option_map holdings_of (shown_process s pid))
can_end s pid waiter (Room pipe) = has_other_end s (Room pipe) (option_map holdings_of (shown_process s pid))
can_end s pid waiter (Tick tick) = false

abbrev pub ender : State → ℕ → Wait → ℕ → Option ℕ
ender s waiter wait pid = cond (can_end s pid waiter wait) (Some pid) None

-- the pids of all that can end it, in their order
unfoldable pub enders : State → ℕ → Wait → List ℕ
enders s waiter wait = by_pid (ender s waiter wait) (2 ^ 32 - 1)

-- ---- the row of a wait

abbrev pub call_word : Wait → WaitingCall
call_word Child = call.Wait
call_word Console = call.Read
call_word (Bytes pipe) = call.Read
call_word (Room pipe) = call.Write
call_word (Tick tick) = call.Sleep

abbrev pub kind_word : Wait → WaitKind
kind_word Child = kind.Child
kind_word Console = kind.Console
kind_word (Bytes pipe) = kind.Bytes
kind_word (Room pipe) = kind.Room
kind_word (Tick tick) = kind.Tick

abbrev pub pipe_of : Wait → Option ℕ
pipe_of (Bytes pipe) = Some pipe
pipe_of (Room pipe) = Some pipe
pipe_of _ = None

abbrev pub tick_of : Wait → Option ℕ
tick_of (Tick tick) = Some tick
tick_of _ = None

pub record IsRowOf (s : State) (pid : ℕ) (wait : Wait) (row : WaitsRow) : Type 0 where
  pub call_is : row.call ≡ call_word wait
  pub kind_is : row.kind ≡ kind_word wait
  pub pids_are : row.pids.items ≡ enders s pid wait
  pub pipe_is : row.pipe ≡ pipe_of wait
  pub tick_is : row.tick ≡ tick_of wait

-- there is a row exactly if the process waits
abbrev pub IsRow : State → ℕ → Option Wait → Option WaitsRow → Type 0
IsRow s pid None None = Unit {0}
IsRow s pid (Some wait) (Some row) = IsRowOf s pid wait row
IsRow s pid _ _ = ⊥
