-- A flat program in memory, and the process and the spaces that begin with it.
use Rattle.tree.specs.Holding.{with_hold}
use Rattle.files.specs.declared.file.Target.TheVariants.{Console}
use Rattle.files.specs.declared.file.OpenFile.{OpenFile}
use Rattle.std.specs.Prelude.{Bool, List, None, Option, Some, [], false, length, replicate, true, ℕ, ◌*◌, ◌+◌, ◌-◌, ◌<◌}
use Rattle.std.specs.Prelude.{◌∷◌, ◌≡◌, ◌≤◌, IsErrOf, OnErr, Result, ◌⊎◌}
use Rattle.kernel.specs.Kernel.{Kernel, begun}
use Rattle.files.specs.Places.{Counted}
use Rattle.proc.specs.declared.process.Process.{Process}
use Rattle.proc.specs.Mask.{all_in}
use Rattle.proc.specs.Places.{Places}
use Rattle.spaces.specs.Spaces.{SpaceView, Spaces}
use Rattle.tree.specs.Tree.{FileTree}
use Rattle.unixmodel.specs.declared.process.Mode.TheVariants.{Ready}
use Rattle.unixmodel.specs.Counts.{page_frames}
use Rattle.unixmodel.specs.Files.{free_slots}
use Rattle.unixmodel.specs.Memory.{Memory, pages_of, zeros}
use Rattle.unixmodel.specs.Numbers.{ceil_div}
use Rattle.unixmodel.specs.Plan.{Plan, with_stack}
use Rattle.unixmodel.specs.ProcessCalls.{exec_registers}
use Rattle.unixmodel.specs.Start.{flat_descriptors}
use Rattle.machine.specs.declared.fault.BootFault.{BootFault}
use Rattle.machine.specs.declared.fault.BootFault.TheVariants.{FrameCount, NoInit, NoMemory}

-- the pages of the bytes, with all marks, and the guard and the stack above them
abbrev pub flat_memory : List ℕ → Memory
flat_memory bytes =
    with_stack (pages_of (record { writable = true; executable = true; user = true; shared = false })
    (ceil_div (length bytes) 4096) bytes)

-- the space that shows them
abbrev pub flat_space : List ℕ → SpaceView
flat_space bytes = record { memory = flat_memory bytes; size = 4096 * length (flat_memory bytes) }

-- the spaces of that many frames, of which slot 0 has this one
abbrev pub alone : ℕ → SpaceView → Spaces
alone frames space = record {
  places = Some space ∷ replicate 63 None;
  active = None;
  registers = replicate 32 0;
  pc = 0;
  frames = frames;
  pipes = replicate 100 None;
}

-- a flat program is loaded into the first slot, or the frames don't suffice
abbrev pub LoadsFlat : List ℕ → Spaces → Spaces → Bool → Type 0
LoadsFlat bytes old new true = (new ≡ alone old.frames (flat_space bytes))
    × (4 + page_frames (length (flat_memory bytes)) ≤ old.frames)
LoadsFlat bytes old new false = old.frames < 4 + page_frames (length (flat_memory bytes))

-- what a process without arguments begins with: its stack holds the 0 word that ends their list
abbrev pub bare_plan : Memory → ℕ → Plan
bare_plan memory size = record { memory = memory; size = size; pc = 0; argc = 0; sp = size - 16 }

-- process 1 with a size of that many bytes, without their pages
abbrev pub first : ℕ → Process
first size = record {
  pid = 1;
  parent = 0;
  registers = exec_registers (zeros 32) (bare_plan [] size);
  pc = 0;
  descriptors = flat_descriptors;
  directory = 1;
  killed = false;
  mode = Ready;
}

-- the table with this process alone
abbrev pub first_table : ℕ → Places
first_table size = record { places = Some (first size) ∷ free_slots 63; last = 63; next_pid = 2; awake = all_in 64 }

-- the console, open for reading and writing
abbrev pub console_file : OpenFile
console_file = record { target = Console 2; readable = true; writable = true }

-- the console alone is open, and three descriptors name it
abbrev pub first_files : List (Option Counted)
first_files = Some (record { file = console_file; count = 3 }) ∷ replicate 99 None

-- the files of a disk, of which process 1 holds the root and its open file the console
abbrev pub first_tree : FileTree → FileTree
first_tree tree = record tree { holds = with_hold (with_hold tree.holds 1) 2 }

-- the kernel of a machine that begins with a space, over the files of a disk
abbrev pub first_kernel : FileTree → ℕ → SpaceView → Kernel
first_kernel tree frames space = begun (first_tree tree) (first_table space.size) (alone frames space) first_files

-- a flat program is refused for the count of frames, for its size, or since memory is refused
abbrev pub RefusesFlat : {M : Type 0} → Result M BootFault → Type 0
RefusesFlat r = OnErr r (IsErrOf r FrameCount ⊎ (IsErrOf r NoInit ⊎ IsErrOf r NoMemory))
