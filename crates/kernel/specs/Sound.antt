-- What a kernel keeps.
use Rattle.std.specs.Prelude.{Bool, IfSome, List, None, Option, Some, false, is_some, length, option_and_then}
use Rattle.std.specs.Prelude.{slice_index, true, ℕ, ◌%◌, ◌<◌, ◌==◌, ◌||◌, ◌≡◌, ◌≤◌}
use Rattle.kernel.specs.Descriptors.{IsCounted}
use Rattle.kernel.specs.Kernel.{Kernel, lives}
use Rattle.files.specs.Pipes.{IsPiped}
use Rattle.files.specs.declared.file.OpenFile.{OpenFile}
use Rattle.files.specs.declared.file.Target.{Target}
use Rattle.files.specs.declared.file.Target.TheVariants as target
use Rattle.files.specs.Places.{Counted, IsTable, file_at, opens_of}
use Rattle.kernel.specs.Holding.{IsInUse}
use Rattle.proc.specs.declared.process.Process.{Process}
use Rattle.proc.specs.Places.{is_running}
use Rattle.spaces.specs.Spaces.{SpaceView, taken_frames}
use Rattle.unixmodel.specs.declared.call.Call.{Call}
use Rattle.unixmodel.specs.declared.call.Call.TheVariants.{Read, Sleep, Wait, Write}
use Rattle.unixmodel.specs.declared.process.Mode.{Mode}
use Rattle.unixmodel.specs.declared.process.Mode.TheVariants.{Ready, Running, Waiting, Zombie}
use Rattle.unixmodel.specs.declared.process.Pending.{Pending}
use Rattle.unixmodel.specs.FileCalls.{pipe_end}
use Rattle.unixmodel.specs.Files.{slot}
use Rattle.unixmodel.specs.Memory.{Memory, can_write, read_bytes}
use Rattle.unixmodel.specs.Numbers.{low}
use Rattle.unixmodel.specs.OpenFiles as unix
use Rattle.unixmodel.specs.OpenFiles.Target.{OnNode, OnPipe}
use Rattle.unixmodel.specs.Outcome.{no_descriptors, pending_arg}
use Rattle.unixmodel.specs.Process.{is_zombie_mode}
use Rattle.unixmodel.specs.State.{holds}

-- a status can be written there: at no address, or in 4 bytes that may be written
abbrev pub can_answer : Memory → ℕ → Bool
can_answer memory address = address == 0 || can_write memory address 4

-- a read of an open file that has bytes left to take, and may write all of its buffer
pub record IsReading (descriptors : List (Option ℕ)) (memory : Memory) (w : Pending) : Type 0 where
  pub named : is_some (slot descriptors (low (pending_arg w 0))) ≡ true
  pub buffer : can_write memory (pending_arg w 1) (low (pending_arg w 2)) ≡ true
  pub left : w.done < low (pending_arg w 2)

-- a write to an open file that has bytes left to put, and may read all of its buffer
pub record IsWriting (descriptors : List (Option ℕ)) (memory : Memory) (w : Pending) : Type 0 where
  pub named : is_some (slot descriptors (low (pending_arg w 0))) ≡ true
  pub readable : is_some (read_bytes memory (pending_arg w 1) (low (pending_arg w 2))) ≡ true
  pub left : w.done < low (pending_arg w 2)

-- the calls that wait
abbrev pub IsPending : List (Option ℕ) → Memory → Pending → Call → Type 0
IsPending descriptors memory w Wait = can_answer memory (pending_arg w 0) ≡ true
IsPending descriptors memory w Sleep = Unit {0}
IsPending descriptors memory w Read = IsReading descriptors memory w
IsPending descriptors memory w Write = IsWriting descriptors memory w
IsPending descriptors memory w _ = ⊥

pub record IsLive (p : Process) : Type 0 where
  pub descriptors : length p.descriptors ≡ 16

pub record IsEnded (p : Process) : Type 0 where
  pub descriptors : p.descriptors ≡ no_descriptors
  pub directory : p.directory ≡ 0

-- a killed process does not run
abbrev pub IsMode : Process → Memory → Mode → Type 0
IsMode p memory Running = IsLive p × (p.killed ≡ false)
IsMode p memory Ready = IsLive p
IsMode p memory (Waiting w) = IsLive p × IsPending p.descriptors memory w w.number
IsMode p memory (Zombie status) = IsEnded p

-- a process with its space
pub record IsPlaced (p : Process) (h : SpaceView) : Type 0 where
  pub zero : slice_index p.registers 0 ≡ 0
  pub aligned : p.pc % 4 ≡ 0
  pub mode : IsMode p h.memory p.mode

-- a slot has a process exactly where it has a space
abbrev pub IsPlace : Option Process → Option SpaceView → Type 0
IsPlace None None = Unit {0}
IsPlace None (Some h) = ⊥
IsPlace (Some p) None = ⊥
IsPlace (Some p) (Some h) = IsPlaced p h

abbrev pub is_at : ℕ → Option ℕ → Bool
is_at i None = false
is_at i (Some j) = j == i

-- ---- open files

-- what holds of an open file, whatever its node: an end of a pipe is open for its side alone
abbrev pub IsOpenOn : unix.OpenFile → unix.Target → Type 0
IsOpenOn f (OnNode n offset) = Unit {0}
IsOpenOn f (OnPipe q end) = f ≡ pipe_end q end

abbrev pub IsOpenFile : unix.OpenFile → Type 0
IsOpenFile f = IsOpenOn f f.target

-- ---- who waits in a read or a write

abbrev pub is_on_pipe : Target → Bool
is_on_pipe (target.File number offset) = false
is_on_pipe (target.Console number) = false
is_on_pipe (target.Device number) = false
is_on_pipe (target.Pipe pipe end) = true

-- a call may wait for the console and for a pipe
abbrev pub is_awaited : Target → Bool
is_awaited (target.File number offset) = false
is_awaited (target.Console number) = true
is_awaited (target.Device number) = false
is_awaited (target.Pipe pipe end) = true

-- the open file that a descriptor names
abbrev pub file_named : List (Option Counted) → List (Option ℕ) → ℕ → Option OpenFile
file_named opens descriptors d = option_and_then (file_at opens) (slot descriptors d)

-- a write waits for a pipe alone
abbrev pub IsForPipe : List (Option Counted) → List (Option ℕ) → Pending → Type 0
IsForPipe opens descriptors w =
    w.number ≡ Write → IfSome (file_named opens descriptors (low (pending_arg w 0))) (λ f. is_on_pipe f.target ≡ true)

-- a read waits for the console or a pipe
abbrev pub IsForBytes : List (Option Counted) → List (Option ℕ) → Pending → Type 0
IsForBytes opens descriptors w =
    w.number ≡ Read → IfSome (file_named opens descriptors (low (pending_arg w 0))) (λ f. is_awaited f.target ≡ true)

-- a read of a pipe waits only while it has taken nothing
abbrev pub IsFresh : List (Option Counted) → List (Option ℕ) → Pending → Type 0
IsFresh opens descriptors w =
    w.number ≡ Read → IfSome (file_named opens descriptors (low (pending_arg w 0)))
    (λ f. is_on_pipe f.target ≡ true → w.done ≡ 0)

pub record IsAwaiting (opens : List (Option Counted)) (descriptors : List (Option ℕ)) (w : Pending) : Type 0 where
  pub write : IsForPipe opens descriptors w
  pub read : IsForBytes opens descriptors w
  pub fresh : IsFresh opens descriptors w

abbrev pub WaitsAs : List (Option Counted) → List (Option ℕ) → Mode → Type 0
WaitsAs opens descriptors Running = Unit {0}
WaitsAs opens descriptors Ready = Unit {0}
WaitsAs opens descriptors (Waiting w) = IsAwaiting opens descriptors w
WaitsAs opens descriptors (Zombie status) = Unit {0}

-- the process of a slot, if it waits, waits as a read or a write may
abbrev pub WaitsWell : List (Option Counted) → Option Process → Type 0
WaitsWell opens None = Unit {0}
WaitsWell opens (Some p) = WaitsAs opens p.descriptors p.mode

-- each open file is counted once for each descriptor that names it, and a pipe exists exactly while some open file is
-- one of its ends
pub record IsOpened (files : List (Option Counted)) (pipes : List (Option (List ℕ))) (places : List (Option Process))
    : Type 0 where
  pub table : IsTable files
  pub counted : IsCounted files places
  pub each : (n : ℕ) (f : unix.OpenFile) → slot (opens_of files) n ≡ Some f → IsOpenFile f
  pub all : length pipes ≡ 100
  pub piped : IsPiped pipes (opens_of files)
  pub waits : (i : ℕ) → WaitsWell files (slot places i)

-- ---- the kernel

pub record IsKernel (k : Kernel) : Type 0 where
  pub all : length k.table.places ≡ 64
  pub spaces : length k.spaces.places ≡ 64
  pub stands : (i : ℕ) → IsPlace (slot k.table.places i) (slot k.spaces.places i)
  -- the process of the active slot runs, and no other does
  pub runs : (i : ℕ) → holds is_running (slot k.table.places i) ≡ is_at i k.spaces.active
  pub fits : taken_frames k.spaces ≤ k.spaces.frames
  pub opened : IsOpened k.files k.spaces.pipes k.table.places
  -- while no access of the device has failed
  pub used : k.tree.failed ≡ false → IsInUse k.tree k.files k.table.places

-- a process that may run: it has not ended, and is not killed
abbrev pub CanRun : Option Process → Type 0
CanRun None = ⊥
CanRun (Some p) = IsLive p × (is_zombie_mode p.mode ≡ false) × (p.killed ≡ false)

-- ---- the end of a process

abbrev pub IsAlive : Option Process → Type 0
IsAlive None = ⊥
IsAlive (Some p) = lives p ≡ true

abbrev pub CanEndIn : Kernel → ℕ → Option ℕ → Type 0
CanEndIn k i None = IsAlive (slot k.table.places i)
CanEndIn k i (Some j) = j ≡ i

-- no access of the device has failed, and process i runs; or none runs, and it has not ended
pub record CanEnd (k : Kernel) (i : ℕ) : Type 0 where
  pub up : k.tree.failed ≡ false
  pub can : CanEndIn k i k.spaces.active
