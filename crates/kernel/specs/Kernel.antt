-- A kernel of many processes, as plain values, and the state of the abstract Unix that it represents.
use Rattle.std.specs.Prelude.{Bool, List, None, Ok, Option, Some, [], if◌then◌else◌, not, slice_index, slice_set, ℕ, ℤ}
use Rattle.std.specs.Prelude.{unwrap_or, ◌%◌, ◌+◌, ◌++◌, ◌==◌, ◌^◌, ◌∷◌, ◌≡◌}
use Rattle.kernel.specs.Descriptors.{all_closed, descriptors_in, standing}
use Rattle.kernel.specs.Holding.{all_dropped, gone_nodes}
use Rattle.files.specs.Places.{Counted, opens_of}
use Rattle.proc.specs.declared.process.Process.{Process}
use Rattle.proc.specs.Places.{Places, changed, changed_at, exited, with_mark, with_mode}
use Rattle.kernel.specs.Whole.{with_table}
use Rattle.spaces.specs.Spaces as spaces
use Rattle.spaces.specs.Spaces.{SpaceView, Spaces, cycle_at, view_at}
use Rattle.unixmodel.specs.declared.process.Mode.{Mode}
use Rattle.unixmodel.specs.declared.process.Mode.TheVariants.{Ready, Running, Waiting}
use Rattle.unixmodel.specs.declared.process.Pending.{Pending}
use Rattle.unixmodel.specs.Console.{Console}
use Rattle.tree.specs.Tree as tree
use Rattle.tree.specs.Tree.{FileTree}
use Rattle.unixmodel.specs.Files.{Files, slot}
use Rattle.unixmodel.specs.Meaning.{Computed}
use Rattle.unixmodel.specs.Numbers.{plus}
use Rattle.unixmodel.specs.OpenFiles.{OpenFile}
use Rattle.unixmodel.specs.Process.{is_zombie_mode}
use Rattle.unixmodel.specs.State.{State}

pub record Kernel : Type 0 where
  -- the files of the disk
  pub tree : FileTree
  pub table : Places
  pub spaces : Spaces
  -- 100 slots, each free or with an open file and the number of descriptors that name it
  pub files : List (Option Counted)
  pub console : Console
  -- modulo 2^32
  pub ticks : ℕ
  -- the status of process 1, once it has ended
  pub halted : Option ℤ

-- the count of the device's failures is another
abbrev pub counting : Kernel → ℕ → Kernel
counting k failures = record k { tree = record k.tree { failures = failures } }

-- a kernel can become a copy of another: it has as many frames, and its disk is like the other's
pub record HasRoomFor (source k : Kernel) : Type 0 where
  pub frames : k.spaces.frames ≡ source.spaces.frames
  pub disk : tree.HasRoomFor source.tree k.tree

-- so it can where no access of the two devices has failed, and the disks have as many numbers of nodes
pub record IsAsLarge (source k : Kernel) : Type 0 where
  pub frames : k.spaces.frames ≡ source.spaces.frames
  pub disk : tree.IsAsLarge source.tree k.tree

-- another mask of awake slots
abbrev pub waking : Kernel → List Bool → Kernel
waking k awake = record k { table = record k.table { awake = awake } }

-- the first state of a kernel over processes, their spaces and their open files
abbrev pub begun : FileTree → Places → Spaces → List (Option Counted) → Kernel
begun tree t s files = record {
  tree = tree;
  table = t;
  spaces = s;
  files = files;
  console = record { committed = []; edited = [] };
  ticks = 0;
  halted = None;
}

-- ---- the state

-- a process with what the hart holds of it
abbrev pub on_hart : Spaces → Process → Process
on_hart s p = record p { registers = s.registers; pc = s.pc }

-- the table in which the process of the active slot has what the hart holds
abbrev pub loaded : Kernel → Places
loaded k = changed_at k.table (on_hart k.spaces) k.spaces.active

-- a process that has not ended
abbrev pub lives : Process → Bool
lives p = not (is_zombie_mode p.mode)

-- what the state takes over from a kernel beside its processes
pub record Rest : Type 0 where
  pub files : Files
  pub block_limit : ℕ
  pub opens : List (Option OpenFile)
  pub pipes : List (Option (List ℕ))
  pub console : Console
  pub ticks : ℕ
  pub frames : ℕ
  pub halted : Option ℤ

abbrev pub rest_of : Kernel → Rest
rest_of k = record {
  files = k.tree.files;
  block_limit = k.tree.block_limit;
  opens = opens_of k.files;
  pipes = k.spaces.pipes;
  console = k.console;
  ticks = k.ticks;
  frames = k.spaces.frames;
  halted = k.halted;
}

-- the state except for the table
abbrev pub base : Rest → State
base rest = record {
  places = [];
  files = rest.files;
  opens = rest.opens;
  pipes = rest.pipes;
  console = rest.console;
  ticks = rest.ticks;
  next_pid = 0;
  last = 0;
  frame_limit = rest.frames;
  block_limit = rest.block_limit;
  halted = rest.halted;
}

-- the state with these slots and spaces
abbrev pub state_with : Places → List (Option SpaceView) → Rest → State
state_with t hs rest = with_table (base rest) t hs

abbrev pub state_of : Kernel → State
state_of k = state_with (loaded k) k.spaces.places (rest_of k)

-- ---- what calls do to the running process, in slot i

-- the current slot: that of the running process; 64, which is no slot's number, where none runs
abbrev pub current : Kernel → ℕ
current k = unwrap_or k.spaces.active 64

-- a process runs
abbrev pub HasCurrent : Kernel → Type 0
HasCurrent k = k.spaces.active ≡ Some (current k)

-- the descriptors of process i
abbrev pub descriptors_at : Kernel → ℕ → List (Option ℕ)
descriptors_at k i = descriptors_in (slot k.table.places i)

-- those of the running process
abbrev pub current_descriptors : Kernel → List (Option ℕ)
current_descriptors k = descriptors_at k (current k)

-- the space of the running process
abbrev pub current_space : Kernel → SpaceView
current_space k = view_at k.spaces (current k)

-- argument n of a call
abbrev pub argument : Kernel → ℕ → ℕ
argument k n = slice_index k.spaces.registers (10 + n)

-- a call begins: the pc advances by 4
abbrev pub entered : Kernel → Kernel
entered k = record k { spaces = record k.spaces { pc = plus k.spaces.pc 4 } }

-- a0 holds the call's result
abbrev pub answered : Kernel → ℕ → Kernel
answered k value = record k { spaces = record k.spaces { registers = slice_set k.spaces.registers 10 value } }

-- the kernel after an instruction
abbrev pub computed : Kernel → ℕ → Computed → Kernel
computed k i d = record k { spaces = spaces.computed k.spaces i d }

-- that instruction is done
abbrev pub Executes : Kernel → Kernel → ℕ → Type 0
Executes old new i = (d : Computed) × (cycle_at old.spaces i ≡ Ok d) × (new ≡ computed old i d)

-- ---- the console

-- the console is another
abbrev pub typed : Kernel → Console → Kernel
typed k c = record k { console = c }

-- ---- which process runs

abbrev pub idle : Spaces → Spaces
idle s = record s { active = None }

-- the process of slot i is in that mode, with what the hart held
abbrev pub left_in : Places → Spaces → ℕ → Mode → Places
left_in t s i mode = changed t i (λ p. with_mode mode (on_hart s p))

-- process i, which ran, runs no more
abbrev pub left_as : Kernel → ℕ → Mode → Kernel
left_as k i mode = record k {
  table = left_in k.table k.spaces i mode;
  spaces = idle k.spaces;
}

abbrev pub blocked : Kernel → ℕ → Pending → Kernel
blocked k i w = left_as k i (Waiting w)

abbrev pub stopped_at : Kernel → Option ℕ → Kernel
stopped_at k None = k
stopped_at k (Some i) = left_as k i Ready

-- a timer interrupt
abbrev pub ticked : Kernel → Kernel
ticked k = record (stopped_at k k.spaces.active) { ticks = (k.ticks + 1) % 2 ^ 32 }

abbrev pub with_last : Places → ℕ → Places
with_last t i = record t { last = i }

abbrev pub started_as : Kernel → ℕ → Option Process → Kernel
started_as k i None = k
started_as k i (Some p) = record k {
  table = changed k.table i (with_mode Running);
  spaces = record k.spaces { active = Some i; registers = p.registers; pc = p.pc };
}

-- process i, where none runs, runs
abbrev pub started : Kernel → ℕ → Kernel
started k i = started_as k i (slot k.table.places i)

-- slot i is the one that was picked last
abbrev pub picked : Kernel → ℕ → Kernel
picked k i = record k { table = with_last k.table i }

-- ---- the end of a process

abbrev pub halted_by : Option Process → ℤ → Option ℤ → Option ℤ
halted_by None status halted = halted
halted_by (Some p) status halted = if p.pid == 1 then Some status else halted

-- the open files that process i leaves
abbrev pub left_files : Kernel → ℕ → List (Option Counted)
left_files k i = all_closed k.files (descriptors_at k i)

-- the directory that process i leaves
abbrev pub left_home : Option Process → List ℕ
left_home None = []
left_home (Some p) = p.directory ∷ []

-- the nodes that process i lets go
abbrev pub left_nodes : Kernel → ℕ → List ℕ
left_nodes k i = gone_nodes k.files (descriptors_at k i) ++ left_home (slot k.table.places i)

-- process i, which ran, or where none runs, has ended: its descriptors are closed, a pipe that has no end any more
-- goes, and so does a node without links that nobody holds any more
abbrev pub ended : Kernel → ℕ → ℤ → Kernel
ended k i status = record k {
  tree = all_dropped k.tree (left_nodes k i);
  table = exited (loaded k) i status;
  spaces = record (idle k.spaces) { pipes = standing k.spaces.pipes (opens_of (left_files k i)) };
  files = left_files k i;
  halted = halted_by (slot k.table.places i) status k.halted;
}

-- the same, and whoever may wait for it is awake
abbrev pub HasEnded : Kernel → Kernel → ℕ → ℤ → Type 0
HasEnded old new i status = new ≡ waking (counting (ended old i status) new.tree.failures) new.table.awake

-- ---- kill

-- process j is marked
abbrev pub marked : Kernel → ℕ → Kernel
marked k j = record k { table = changed k.table j with_mark }
