-- What open does to a kernel, step by step.
use Rattle.std.specs.Prelude.{Bool, Err, List, Ok, Option, Result, Some, if◌then◌else◌, nat_le, nat_lt, not, true, ℕ}
use Rattle.std.specs.Prelude.{◌&&◌, ◌==◌, ◌||◌, ◌≡◌, ◌≤◌}
use Rattle.blockdev.specs.declared.DeviceFault.{DeviceFault}
use Rattle.calls.specs.Acts.{RunsAt}
use Rattle.kernel.specs.Opening.{free_descriptors}
use Rattle.files.specs.declared.file.OpenFile.{OpenFile}
use Rattle.files.specs.declared.file.Target.{Target}
use Rattle.files.specs.declared.file.Target.TheVariants as target
use Rattle.files.specs.Places.{free_count, opens_of}
use Rattle.inode.specs.declared.InodeStat.{InodeStat}
use Rattle.kernel.specs.Disk.{IsLost, IsServed, directory_at}
use Rattle.kernel.specs.Kernel.{Kernel, argument, descriptors_at, state_of}
use Rattle.kernel.specs.Sound.{IsKernel}
use Rattle.spaces.specs.Spaces.{view_at}
use Rattle.tree.specs.Telling.{TellsMajor}
use Rattle.tree.specs.Tree.{FileTree}
use Rattle.unixmodel.specs.FileCalls.{with_descriptor}
use Rattle.unixmodel.specs.Files.{Files, Node, find, free_slot, kind_of, put, slot}
use Rattle.unixmodel.specs.Memory.{path_at}
use Rattle.unixmodel.specs.NameCalls.{may_open, truncated}
use Rattle.unixmodel.specs.Numbers.{has_bit, low}
use Rattle.unixmodel.specs.OpenFiles as unix
use Rattle.unixmodel.specs.Process.{Process}
use Rattle.unixmodel.specs.State.{State, process_at}

-- ---- what is requested

-- argument 0 is that path, argument 1 the flags, and o is the number that the path reaches
pub record Asks (k : Kernel) (i : ℕ) (path : List ℕ) (f : ℕ) (o : Option ℕ) : Type 0 where
  pub named : Some path ≡ path_at (view_at k.spaces i).memory (argument k 0)
  pub flags : f ≡ low (argument k 1)
  pub found : o ≡ find k.tree.files (directory_at k i) path

-- ---- an open file

-- what is open on number n, whose inode says that type and major
abbrev pub target_by : ℕ → ℕ → ℕ → Target
target_by n kind major =
    if kind == 3 then (if major == 1 then target.Console n else target.Device n) else target.File n 0

-- the open file that flags f ask for
abbrev pub file_by : ℕ → Target → OpenFile
file_by f on = record { target = on; readable = not (has_bit f 0); writable = has_bit f 0 || has_bit f 1 }

-- whether flags f may open a node of that type and major
abbrev pub may_open_by : ℕ → ℕ → ℕ → Bool
may_open_by f kind major = if kind == 1 then f == 0 else if kind == 3 then nat_le major 9 else true

-- flags f may open number n, whose attributes these are
pub record IsOpenable (files : Files) (n f : ℕ) (told : InodeStat) : Type 0 where
  pub node : Node
  pub here : slot files n ≡ Some node
  pub kind : told.kind ≡ kind_of node
  pub major : TellsMajor told.major node
  pub may : may_open f node ≡ true

-- ---- a descriptor and a slot for it

abbrev pub has_seat : Kernel → ℕ → Bool
has_seat k i = nat_lt 0 (free_descriptors k.table i) && nat_lt 0 (free_count k.files)

-- descriptor fd of process p, in slot i, names f, which takes a slot
abbrev pub with_open : State → ℕ → Process → ℕ → ℕ → unix.OpenFile → State
with_open s i p fd place f =
    record s { places = put s.places i (with_descriptor p fd place); opens = put s.opens place f }

-- the lowest free descriptor of process i, fd, names f, which takes the lowest free slot
pub record Opens (old new : Kernel) (i : ℕ) (f : unix.OpenFile) (fd : ℕ) : Type 0 where
  pub place : ℕ
  pub first : free_slot (opens_of old.files) ≡ Some place
  pub free : free_slot (descriptors_at old i) ≡ Some fd
  pub state : (p : Process) → process_at (state_of old) i ≡ Some p
      → state_of new ≡ with_open (state_of old) i p fd place f
  pub runs : RunsAt new i
  pub served : IsServed old.tree new.tree

-- ---- a file that is emptied

-- the tree in which number n is emptied, if flags f ask for it
abbrev pub cut_tree : FileTree → ℕ → ℕ → ℕ → FileTree
cut_tree t f n failures = record t { files = truncated f (record { files = t.files; number = n }); failures = failures }

pub record IsCut (old new : Kernel) (f n : ℕ) : Type 0 where
  pub same : new ≡ record old { tree = cut_tree old.tree f n new.tree.failures }
  pub later : old.tree.failures ≤ new.tree.failures
  pub sound : IsKernel new

abbrev pub Cuts : Kernel → Kernel → ℕ → ℕ → Result (Unit {0}) DeviceFault → Type 0
Cuts old new f n (Ok done) = IsCut old new f n
Cuts old new f n (Err fault) = IsLost old.tree new.tree
