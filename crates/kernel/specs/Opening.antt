-- What the kernel's steps do to the descriptors of the running process, and to the open files that they name.
use Rattle.std.specs.Prelude.{List, None, Option, Some, [], count_by, false, is_none, length, option_map, true, ℕ, ◌<◌}
use Rattle.std.specs.Prelude.{◌≡◌, ◌≤◌}
use Rattle.file_transfers.specs.Moved.{bytes_read, written_from}
use Rattle.files.specs.declared.file.End.{End}
use Rattle.files.specs.declared.file.End.TheVariants as end
use Rattle.files.specs.declared.file.OpenFile.{OpenFile}
use Rattle.files.specs.declared.file.Target.TheVariants as target
use Rattle.files.specs.Places.{Counted, closed, file_at, free_count, moved, opened, opens_of, shared}
use Rattle.kernel.specs.Descriptors.{descriptors_in, without_end}
use Rattle.kernel.specs.Holding.{FitsNode, all_dropped, last_node, listed, node_on}
use Rattle.kernel.specs.Disk.{with_tree}
use Rattle.kernel.specs.Kernel.{Kernel, counting, descriptors_at, waking}
use Rattle.kernel.specs.Memory.{wrote}
use Rattle.proc.specs.Places.{Places, changed, with_descriptor}
use Rattle.spaces.specs.Spaces.{taken_frames, with_pipe}
use Rattle.tree.specs.Holding.{with_hold}
use Rattle.tree.specs.Written.{count_of, files_after}
use Rattle.unixmodel.specs.FileCalls.{pipe_end}
use Rattle.unixmodel.specs.Files.{free_slot, longest, put, slot}
use Rattle.unixmodel.specs.OpenFiles.End.{ReadEnd}

-- descriptor fd of the running process, in slot i, is the lowest free one, and another one names open file n
pub record MayShare (k : Kernel) (i fd n : ℕ) : Type 0 where
  pub running : k.spaces.active ≡ Some i
  pub named : (d : ℕ) × (slot (descriptors_at k i) d ≡ Some n)
  pub free : free_slot (descriptors_at k i) ≡ Some fd

-- that descriptor names the open file too
abbrev pub duplicated : Kernel → ℕ → ℕ → ℕ → Kernel
duplicated k i fd n = record k { table = changed k.table i (with_descriptor fd (Some n)); files = shared k.files n }

-- descriptor fd of the running process, in slot i, names open file n; no access of the device has failed
pub record MayClose (k : Kernel) (i fd n : ℕ) : Type 0 where
  pub running : k.spaces.active ≡ Some i
  pub named : slot (descriptors_at k i) fd ≡ Some n
  pub up : k.tree.failed ≡ false

-- that descriptor is free; a pipe that has no end any more goes, and so does a node without links that nobody holds any
-- more
abbrev pub closed_at : Kernel → ℕ → ℕ → ℕ → Kernel
closed_at k i fd n = record k {
  tree = all_dropped k.tree (listed (last_node k.files n));
  table = changed k.table i (with_descriptor fd None);
  spaces = without_end k.spaces k.files n;
  files = closed k.files n;
}

-- the same, and whoever may wait for that is awake
abbrev pub HasClosed : Kernel → Kernel → ℕ → ℕ → ℕ → Type 0
HasClosed old new i fd n = new ≡ waking (counting (closed_at old i fd n) new.tree.failures) new.table.awake

-- ---- open

-- how many descriptors of process i are free
abbrev pub free_descriptors : Places → ℕ → ℕ
free_descriptors t i = count_by is_none (descriptors_in (slot t.places i))

-- an open file takes the lowest free slot, and the lowest free descriptor of process i, fd, names it
pub record OpensAs (t t' : Places) (files files' : List (Option Counted)) (i : ℕ) (f : OpenFile) (fd : ℕ) : Type 0 where
  pub number : ℕ
  pub place : free_slot (opens_of files) ≡ Some number
  pub free : free_slot (descriptors_in (slot t.places i)) ≡ Some fd
  pub opens : files' ≡ opened files number f
  pub names : t' ≡ changed t i (with_descriptor fd (Some number))

-- f fits node n, the running process, in slot i, has a free descriptor, and there is a slot for f; no access of the
-- device has failed
pub record MayOpen (k : Kernel) (i n : ℕ) (f : OpenFile) : Type 0 where
  pub running : k.spaces.active ≡ Some i
  pub descriptor : 0 < free_descriptors k.table i
  pub place : 0 < free_count k.files
  pub on : node_on f.target ≡ Some n
  pub fits : FitsNode f f.target (slot k.tree.files n)
  pub up : k.tree.failed ≡ false

-- descriptor fd of process i names f, in slot `number` of the open files
abbrev pub opened_at : Kernel → ℕ → OpenFile → ℕ → ℕ → Kernel
opened_at k i f place fd =
    record k { table = changed k.table i (with_descriptor fd (Some place)); files = opened k.files place f }

-- the same, and f holds node n
abbrev pub opened_on : Kernel → ℕ → ℕ → OpenFile → ℕ → ℕ → Kernel
opened_on k i n f place fd =
    record (opened_at k i f place fd) { tree = record k.tree { holds = with_hold k.tree.holds n } }

-- the lowest free descriptor of process i, fd, names f on node n, in the lowest free slot; whoever may wait for that is
-- awake
pub record OpensOn (old new : Kernel) (i n : ℕ) (f : OpenFile) (fd : ℕ) : Type 0 where
  pub place : ℕ
  pub first : free_slot (opens_of old.files) ≡ Some place
  pub free : free_slot (descriptors_at old i) ≡ Some fd
  pub same : new ≡ waking (opened_on old i n f place fd) new.table.awake

-- ---- pipe

-- an end of a pipe, as an open file
abbrev pub pipe_file : ℕ → End → OpenFile
pipe_file q end.Read = record { target = target.Pipe q end.Read; readable = true; writable = false }
pipe_file q end.Write = record { target = target.Pipe q end.Write; readable = false; writable = true }

-- the running process, in slot i, has two free descriptors, there are slots for both ends, and slot q is the lowest
-- free one for a pipe
pub record MayPipe (k : Kernel) (i q : ℕ) : Type 0 where
  pub running : k.spaces.active ≡ Some i
  pub descriptors : 2 ≤ free_descriptors k.table i
  pub places : 2 ≤ free_count k.files
  pub room : free_slot k.spaces.pipes ≡ Some q

-- a new pipe: its slot, the slots of its ends among the open files, and the descriptors that name them
pub record Ends : Type 0 where
  pub pipe : ℕ
  pub reader : ℕ
  pub writer : ℕ
  pub read_fd : ℕ
  pub write_fd : ℕ

-- these slots and descriptors are the lowest that are free
pub record AreFree (k : Kernel) (i : ℕ) (e : Ends) : Type 0 where
  pub pipe : free_slot k.spaces.pipes ≡ Some e.pipe
  pub reader : free_slot (opens_of k.files) ≡ Some e.reader
  pub writer : free_slot (put (opens_of k.files) e.reader (pipe_end e.pipe ReadEnd)) ≡ Some e.writer
  pub read_fd : free_slot (descriptors_at k i) ≡ Some e.read_fd
  pub write_fd : free_slot (put (descriptors_at k i) e.read_fd e.reader) ≡ Some e.write_fd

-- process i has the read end of a new pipe, and then the write end too
abbrev pub half_piped : Kernel → ℕ → Ends → Kernel
half_piped k i e = record (opened_at k i (pipe_file e.pipe end.Read) e.reader e.read_fd)
    { spaces = with_pipe k.spaces e.pipe (Some []) }

abbrev pub piped : Kernel → ℕ → Ends → Kernel
piped k i e = opened_at (half_piped k i e) i (pipe_file e.pipe end.Write) e.writer e.write_fd

-- pipe q is new, and the lowest free descriptors of process i name its ends; whoever may wait for that is awake
pub record HasPiped (old new : Kernel) (i q read_fd write_fd : ℕ) : Type 0 where
  pub ends : Ends
  pub free : AreFree old i ends
  pub is : (ends.pipe ≡ q) × (ends.read_fd ≡ read_fd) × (ends.write_fd ≡ write_fd)
  pub fits : taken_frames (with_pipe old.spaces q (Some [])) ≤ old.spaces.frames
  pub same : new ≡ waking (piped old i ends) new.table.awake

-- the same, or the frames don't suffice
abbrev pub PipesInto : Kernel → Kernel → ℕ → ℕ → Option (ℕ × ℕ) → Type 0
PipesInto old new i q (Some fds) = HasPiped old new i q fds.0 fds.1
PipesInto old new i q None = (old.spaces.frames < taken_frames (with_pipe old.spaces q (Some []))) × (new ≡ old)

-- ---- read and write

-- open file n is on a file or a directory, and may go on from that offset
pub record MayMove (k : Kernel) (n offset : ℕ) : Type 0 where
  pub number : ℕ
  pub old : ℕ
  pub on : option_map (λ (f : OpenFile). f.target) (file_at k.files n) ≡ Some (target.File number old)
  pub within : offset ≤ longest

abbrev pub advanced : Kernel → ℕ → ℕ → Kernel
advanced k n offset = record k { files = moved k.files n offset }

-- bytes of node n are written to an address of process i, and the result is how many
pub record HasFetched (old new : Kernel) (i n offset address count told : ℕ) : Type 0 where
  pub same : new ≡ counting (wrote old i address (bytes_read old.tree.files n offset count)) new.tree.failures
  pub counted : told ≡ length (bytes_read old.tree.files n offset count)

-- bytes from an address of process i on are written to file n, as many as there are blocks for, and the result is how
-- many
pub record HasStored (old new : Kernel) (i n offset address count : ℕ) (told : Option ℕ) : Type 0 where
  pub same : new ≡ with_tree old
      (record old.tree {
        files = files_after old.tree.files
            (written_from old.spaces i address count old.tree n offset);
        failures = new.tree.failures;
      })
  pub counted : told ≡ count_of (written_from old.spaces i address count old.tree n offset)
