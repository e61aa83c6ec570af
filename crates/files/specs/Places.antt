-- The table of open files: an open file, and how many descriptors name it.
use Rattle.std.specs.Prelude.{Bool, Err, List, None, Ok, Option, Result, Some, count_by, if◌then◌else◌, is_none, length}
use Rattle.std.specs.Prelude.{map, nat_lt, option_and_then, option_map, slice_set, ℕ, ◌+◌, ◌-◌, ◌<◌, ◌≡◌}
use Rattle.std.specs.List.{list_any}
use Rattle.files.specs.declared.file.OpenFile.{OpenFile}
use Rattle.files.specs.declared.file.Target.{Target}
use Rattle.files.specs.declared.file.Target.TheVariants as target
use Rattle.files.specs.declared.table.FileFault.{FileFault}
use Rattle.files.specs.declared.table.FileFault.TheVariants.{BadDevice, NoFile, NotReadable, NotWritable, Slots}
use Rattle.files.specs.declared.table.Slot.{Slot}
use Rattle.files.specs.Meant.{file_of, target_of}
use Rattle.unixmodel.specs.FileCalls.{node_number}
use Rattle.unixmodel.specs.Files.{free_slot, put, slot, taken}
use Rattle.unixmodel.specs.OpenFiles as unix
use Rattle.unixmodel.specs.OpenFiles.{End, is_end, is_pipe}

pub record Counted : Type 0 where
  pub file : OpenFile
  -- how many descriptors name it
  pub count : ℕ

abbrev pub counted_of : Slot → Counted
counted_of s = record { file = s.file; count = s.references }

-- an open file of a table
abbrev pub file_at : List (Option Counted) → ℕ → Option OpenFile
file_at t i = option_map (λ (c : Counted). c.file) (slot t i)

-- the open files of a table, as a state has them
abbrev pub opens_of : List (Option Counted) → List (Option unix.OpenFile)
opens_of t = map (option_map (λ (c : Counted). file_of c.file)) t

-- ---- counts

abbrev pub count_in : Option Counted → ℕ
count_in None = 0
count_in (Some c) = c.count

-- how many descriptors name open file i
abbrev pub count_at : List (Option Counted) → ℕ → ℕ
count_at t i = count_in (slot t i)

-- what holds of each table: some descriptor names each open file
pub record IsTable (t : List (Option Counted)) : Type 0 where
  pub all : length t ≡ 100
  pub named : (i : ℕ) (c : Counted) → slot t i ≡ Some c → 0 < c.count

-- ---- changes

-- an open file that one descriptor names takes slot i
abbrev pub opened : List (Option Counted) → ℕ → OpenFile → List (Option Counted)
opened t i file = put t i (record { file = file; count = 1 })

-- one descriptor more names it
abbrev pub more : Counted → Counted
more c = record c { count = c.count + 1 }

abbrev pub shared : List (Option Counted) → ℕ → List (Option Counted)
shared t i = slice_set t i (option_map more (slot t i))

-- one descriptor fewer names it, and with the last one it goes
abbrev pub fewer : Counted → Option Counted
fewer c = if nat_lt 1 c.count then Some (record c { count = c.count - 1 }) else None

abbrev pub closed : List (Option Counted) → ℕ → List (Option Counted)
closed t i = slice_set t i (option_and_then fewer (slot t i))

-- what it was open on, where the last one goes
abbrev pub last_in : Counted → Option Target
last_in c = if nat_lt 1 c.count then None else Some c.file.target

abbrev pub last_target : List (Option Counted) → ℕ → Option Target
last_target t i = option_and_then last_in (slot t i)

-- a file or a directory is open from another offset on
abbrev pub moved_to : ℕ → Target → Target
moved_to offset (target.File number old) = target.File number offset
moved_to offset (target.Console number) = target.Console number
moved_to offset (target.Device number) = target.Device number
moved_to offset (target.Pipe pipe e) = target.Pipe pipe e

abbrev pub moved_in : ℕ → Counted → Counted
moved_in offset c = record c { file = record c.file { target = moved_to offset c.file.target } }

abbrev pub moved : List (Option Counted) → ℕ → ℕ → List (Option Counted)
moved t i offset = slice_set t i (option_map (moved_in offset) (slot t i))

-- ---- results

-- the lowest free slot
abbrev pub place_from : Option ℕ → Result ℕ FileFault
place_from None = Err Slots
place_from (Some i) = Ok i

abbrev pub place_for : List (Option unix.OpenFile) → Result ℕ FileFault
place_for opens = place_from (free_slot opens)

-- how many slots are free
abbrev pub free_count : List (Option Counted) → ℕ
free_count t = count_by is_none t

-- what is read and written there: of the devices the console alone
abbrev pub usable : Target → Result Target FileFault
usable (target.File number offset) = Ok (target.File number offset)
usable (target.Console number) = Ok (target.Console number)
usable (target.Device number) = Err BadDevice
usable (target.Pipe pipe e) = Ok (target.Pipe pipe e)

abbrev pub readable_at : Option OpenFile → Result Target FileFault
readable_at None = Err NotReadable
readable_at (Some f) = if f.readable then usable f.target else Err NotReadable

abbrev pub writable_at : Option OpenFile → Result Target FileFault
writable_at None = Err NotWritable
writable_at (Some f) = if f.writable then usable f.target else Err NotWritable

-- the number of the node that it is open on
abbrev pub node_from : Option ℕ → Result ℕ FileFault
node_from None = Err NoFile
node_from (Some number) = Ok number

abbrev pub node_at : Option OpenFile → Result ℕ FileFault
node_at o = node_from (option_and_then (λ (f : OpenFile). node_number (target_of f.target)) o)

-- whether some open file is this end of a pipe, or some end of it
abbrev pub has_end : List (Option unix.OpenFile) → ℕ → End → Bool
has_end opens q end = list_any (λ (f : unix.OpenFile). is_end q end f.target) (taken opens)

abbrev pub has_pipe : List (Option unix.OpenFile) → ℕ → Bool
has_pipe opens q = list_any (λ (f : unix.OpenFile). is_pipe q f.target) (taken opens)
