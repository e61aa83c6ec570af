-- What a machine begins with that boots from a disk, or why it doesn't boot.
use Rattle.std.specs.Prelude.{List, None, Option, Some, [], length, replicate, false, ℕ, ◌%◌, ◌*◌, ◌+◌, ◌<◌, ◌∷◌, ◌≡◌}
use Rattle.std.specs.Prelude.{◌≤◌, ◌⊎◌}
use Rattle.blockdev.specs.Reached.{Fails}
use Rattle.imagecheck.specs.Faults.{IsOfImage, Tells}
use Rattle.imagecheck.specs.declared.ImageFault.{ImageFault}
use Rattle.imagecheck.specs.declared.ImageFault.TheVariants as fault
use Rattle.kernel.specs.Kernel.{Kernel, begun}
use Rattle.machine.specs.declared.image_boot.Init.{Init}
use Rattle.machine.specs.declared.fault.BootFault.{BootFault}
use Rattle.machine.specs.declared.fault.BootFault.TheVariants.{Device, FrameCount, Image, NoInit, NoMemory}
use Rattle.machine.specs.Flat.{alone}
use Rattle.machine.specs.Saved.{LosesDevice}
use Rattle.machine.specs.View.{IsUp, View}
use Rattle.mount.specs.Mounted.{AreLinked}
use Rattle.name_rules.specs.Rules.{KeepsTree}
use Rattle.proc.specs.declared.process.Process.{Process}
use Rattle.proc.specs.Mask.{all_in}
use Rattle.proc.specs.Places.{Places}
use Rattle.programs.specs.Headed.{file_at, program_in}
use Rattle.programs.specs.Passed.{plan_with}
use Rattle.spaces.specs.Spaces.{SpaceView, Spaces}
use Rattle.tree.specs.Holding.{with_hold}
use Rattle.tree.specs.Tree.{FileTree}
use Rattle.tree.specs.Written.{IsFile}
use Rattle.unixmodel.specs.declared.process.Mode.TheVariants.{Ready}
use Rattle.unixmodel.specs.Counts.{page_frames}
use Rattle.unixmodel.specs.Files.{Files, free_slots}
use Rattle.unixmodel.specs.Formats.{format}
use Rattle.unixmodel.specs.Image.{Denotes, inodes_in, size_in}
use Rattle.unixmodel.specs.Manifest.{data_blocks_of}
use Rattle.unixmodel.specs.Memory.{zeros}
use Rattle.unixmodel.specs.Outcome.{no_descriptors}
use Rattle.unixmodel.specs.Plan.{Loaded, Plan, loaded_of}
use Rattle.unixmodel.specs.ProcessCalls.{exec_registers}
use Rattle.unixmodel.specs.Start.{init_plan, start}
use Rattle.unixmodel.specs.State.{State}

-- the files that an image denotes: there are no others
pub record IsAccepted (image : List ℕ) (files : Files) : Type 0 where
  pub denotes : Denotes image files
  pub only : (others : Files) → Denotes image others → others ≡ files

-- the state at boot from these files of an image
abbrev pub start_from : List ℕ → Files → ℕ → Option State
start_from image files frames = start files (data_blocks_of (size_in image) (inodes_in image)) frames

-- the machine that boots from an image: its state is that with which the abstract Unix starts, and its device has this
-- identity
pub record IsBooted (image identity : List ℕ) (failures frames : ℕ) (m : View) : Type 0 where
  pub files : Files
  pub accepted : IsAccepted image files
  pub starts : start_from image files frames ≡ Some m.state
  pub up : IsUp m
  pub same_device : m.identity ≡ identity
  pub later : failures ≤ m.failures

-- the image denotes files, but the abstract Unix doesn't start with them
pub record IsWithoutInit (image : List ℕ) (frames : ℕ) : Type 0 where
  pub files : Files
  pub accepted : IsAccepted image files
  pub none : start_from image files frames ≡ None

-- why a machine doesn't boot from this disk, which has that image; identity, count: what distinguishes a device from
-- others, and its count of failures
abbrev pub IsUnbooted : {D : Type 0} → (D → List ℕ) → (D → ℕ) → D → List ℕ → ℕ → BootFault → Type 0
IsUnbooted identity count disk image frames (Image fault) = IsOfImage fault × Tells format image fault
    × ((files : Files) → Denotes image files → ⊥)
IsUnbooted identity count disk image frames FrameCount = (frames < 64) ⊎ (32768 < frames)
IsUnbooted {D} identity count disk image frames Device = (left : D) × Fails identity count disk left
IsUnbooted identity count disk image frames NoMemory = Unit {0}
IsUnbooted identity count disk image frames NoInit = IsWithoutInit image frames

-- the fault where the disk has no files in use
abbrev pub boot_fault : ImageFault → BootFault
boot_fault fault.Device = Device
boot_fault fault.NoMemory = NoMemory
boot_fault f = Image f

-- ---- files in use, before a process holds any

pub record IsUnheld (t : FileTree) : Type 0 where
  pub rules : KeepsTree t.files
  pub linked : AreLinked t.files
  pub count : ℕ
  pub holds : t.holds ≡ replicate count 0
  pub up : t.failed ≡ false

pub record IsBegun (t : FileTree) (frames : ℕ) (m : View) : Type 0 where
  pub starts : start t.files t.block_limit frames ≡ Some m.state
  pub up : IsUp m
  pub same_device : m.identity ≡ t.identity
  pub later : t.failures ≤ m.failures

abbrev pub IsNotBegun : {D : Type 0} → (D → List ℕ) → (D → ℕ) → FileTree → ℕ → BootFault → Type 0
IsNotBegun identity count t frames Device = LosesDevice identity count t
IsNotBegun identity count t frames NoMemory = Unit {0}
IsNotBegun identity count t frames NoInit = start t.files t.block_limit frames ≡ None
IsNotBegun identity count t frames _ = ⊥

-- ---- the program of process 1

-- the file /init has this program, for which there are frames, and its plan these arguments
pub record IsInit (files : Files) (frames : ℕ) (init : Init) : Type 0 where
  pub file : IsFile files init.number
  pub program : program_in (file_at files init.number) ≡ Some init.program
  pub fits : 4 + page_frames (init.program.pages + 2) ≤ frames
  pub plan : (l : Loaded) → loaded_of (file_at files init.number) ≡ Some l
      → init_plan files ≡ Some (plan_with l.pages init.program.header.entry init.arguments)

-- there is no plan, or the frames don't suffice
abbrev pub LacksInit : Files → ℕ → Type 0
LacksInit files frames = (p : Plan) → init_plan files ≡ Some p → frames < 4 + page_frames (length p.memory)

abbrev pub FindsInit : Files → ℕ → Option Init → Type 0
FindsInit files frames None = LacksInit files frames
FindsInit files frames (Some init) = IsInit files frames init

-- the space that shows a plan
abbrev pub view_by : Plan → SpaceView
view_by new = record { memory = new.memory; size = new.size }

-- the plan without its pages
abbrev pub bare_of : Init → Plan
bare_of init = record {
  memory = [];
  size = 4096 * (init.program.pages + 2);
  pc = init.program.header.entry;
  argc = init.arguments.count;
  sp = init.arguments.sp;
}

-- process 1 with a plan, without its pages
abbrev pub first_of : Plan → Process
first_of new = record {
  pid = 1;
  parent = 0;
  registers = exec_registers (zeros 32) new;
  pc = new.pc;
  descriptors = no_descriptors;
  directory = 1;
  killed = false;
  mode = Ready;
}

-- the program is in the first slot
pub record IsInPlace (files : Files) (frames : ℕ) (new : Spaces) (init : Init) : Type 0 where
  pub plan : Plan
  pub is : init_plan files ≡ Some plan
  pub fits : 4 + page_frames (length plan.memory) ≤ frames
  pub spaces : new ≡ alone frames (view_by plan)
  pub bare : first_of (bare_of init) ≡ first_of plan
  pub aligned : plan.pc % 4 ≡ 0

abbrev pub PutsInit : Files → ℕ → Spaces → Option Init → Type 0
PutsInit files frames new None = LacksInit files frames
PutsInit files frames new (Some init) = IsInPlace files frames new init

-- ---- the kernel

-- the table with process 1 alone
abbrev pub first_places : Plan → Places
first_places new = record { places = Some (first_of new) ∷ free_slots 63; last = 63; next_pid = 2; awake = all_in 64 }

-- the kernel of a machine that begins with a plan, over the files of a disk
abbrev pub init_kernel : FileTree → ℕ → Plan → Kernel
init_kernel tree frames new =
    begun (record tree { holds = with_hold tree.holds 1 }) (first_places new) (alone frames (view_by new))
    (free_slots 100)
