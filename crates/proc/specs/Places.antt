-- The slots, in terms of the abstract Unix's state: a process is the same, except for its memory.
use Rattle.std.specs.Prelude.{Bool, Err, List, None, Ok, Option, Result, Some, if◌then◌else◌, map, nat_le, option_map}
use Rattle.std.specs.Prelude.{position, slice_set, true, ℕ, ℤ, ◌&&◌, ◌+◌, ◌==◌}
use Rattle.proc.specs.declared.process.Process.{Process}
use Rattle.proc.specs.declared.table.ProcFault.{ProcFault}
use Rattle.proc.specs.declared.table.ProcFault.TheVariants.{Pids, Slots}
use Rattle.proc.specs.declared.table.Reaped.{Reaped}
use Rattle.proc.specs.declared.table.Seat.{Seat}
use Rattle.proc.specs.Mask.{is_in}
use Rattle.unixmodel.specs.declared.process.Mode.{Mode}
use Rattle.unixmodel.specs.declared.process.Mode.TheVariants.{Zombie}
use Rattle.unixmodel.specs.Files.{clear, free_slot, put, slot}
use Rattle.unixmodel.specs.Outcome.{no_descriptors}
use Rattle.unixmodel.specs.Process.{is_running_mode, is_zombie_mode, last_pid}
use Rattle.unixmodel.specs.ProcessCalls.{status_of}
use Rattle.unixmodel.specs.State.{holds}

-- 64 slots, the one that was picked last, the pid that the next process gets, and which slots a turn looks at
pub record Places : Type 0 where
  pub places : List (Option Process)
  pub last : ℕ
  pub next_pid : ℕ
  pub awake : List Bool

-- ---- who is awake

-- whether a turn looks at slot i
abbrev pub is_awake : Places → ℕ → Bool
is_awake t i = is_in t.awake i

-- a turn looks at slot i again
abbrev pub woken : Places → ℕ → Places
woken t i = record t { awake = slice_set t.awake i true }

-- ---- processes

abbrev pub is_running : Process → Bool
is_running p = is_running_mode p.mode

abbrev pub has_pid : ℕ → Process → Bool
has_pid pid p = p.pid == pid

abbrev pub is_child_of : ℕ → Process → Bool
is_child_of pid p = p.parent == pid

abbrev pub is_zombie_child_of : ℕ → Process → Bool
is_zombie_child_of pid p = is_child_of pid p && is_zombie_mode p.mode

abbrev pub with_mode : Mode → Process → Process
with_mode mode p = record p { mode = mode }

abbrev pub with_directory : ℕ → Process → Process
with_directory directory p = record p { directory = directory }

-- a descriptor names another open file, or none
abbrev pub with_descriptor : ℕ → Option ℕ → Process → Process
with_descriptor fd o p = record p { descriptors = slice_set p.descriptors fd o }

abbrev pub with_mark : Process → Process
with_mark p = record p { killed = true }

-- a process that ran, with what the hart held
abbrev pub left : List ℕ → ℕ → Mode → Process → Process
left registers pc mode p = record p { registers = registers; pc = pc; mode = mode }

-- descriptors and directory are given up
abbrev pub zombie_of : Process → ℤ → Process
zombie_of p status = record p { descriptors = no_descriptors; directory = 0; mode = Zombie status }

-- a child of pid goes to process 1
abbrev pub orphaned : ℕ → Process → Process
orphaned pid p = if is_child_of pid p then record p { parent = 1 } else p

-- ---- slots

-- the first slot whose process passes a test
abbrev pub place_where : List (Option Process) → (Process → Bool) → Option ℕ
place_where places test = position (holds test) places

-- the process in slot i is changed
abbrev pub changed : Places → ℕ → (Process → Process) → Places
changed t i change = record t { places = slice_set t.places i (option_map change (slot t.places i)) }

-- the process in a slot is changed, where a slot is given
abbrev pub changed_at : Places → (Process → Process) → Option ℕ → Places
changed_at t change None = t
changed_at t change (Some i) = changed t i change

-- the running process is changed; nothing is, where none runs
abbrev pub with_running : Places → (Process → Process) → Places
with_running t change = changed_at t change (place_where t.places is_running)

-- ---- a new process

-- the lowest free slot and the next pid, or what is missing
abbrev pub seat_at : ℕ → Option ℕ → Result Seat ProcFault
seat_at pid None = Err Slots
seat_at pid (Some i) = if nat_le pid last_pid then Ok (record { place = i; pid = pid }) else Err Pids

abbrev pub seat_of : Places → Result Seat ProcFault
seat_of t = seat_at t.next_pid (free_slot t.places)

-- a process takes a slot and a pid
abbrev pub seated : Places → Process → Seat → Places
seated t p seat = record t { places = put t.places seat.place (record p { pid = seat.pid }); next_pid = t.next_pid + 1 }

-- ---- the end of a process

-- the process in slot i has ended; its children go to process 1
abbrev pub ended : Places → ℕ → ℤ → Option Process → Places
ended t i status None = t
ended t i status (Some p) =
    record t { places = put (map (option_map (orphaned p.pid)) t.places) i (zombie_of p status) }

abbrev pub exited : Places → ℕ → ℤ → Places
exited t i status = ended t i status (slot t.places i)

-- ---- a zombie that is collected

abbrev pub zombie_place : Places → ℕ → Option ℕ
zombie_place t parent = place_where t.places (is_zombie_child_of parent)

abbrev pub reaped_from : ℕ → Process → Reaped
reaped_from i p = record { place = i; pid = p.pid; status = status_of p.mode }

abbrev pub reaped_at : Places → Option ℕ → Option Reaped
reaped_at t None = None
reaped_at t (Some i) = option_map (reaped_from i) (slot t.places i)

-- a slot becomes free, where one is given
abbrev pub without : Places → Option ℕ → Places
without t None = t
without t (Some i) = record t { places = clear t.places i }
