-- What many steps of the kernel return.
use Rattle.std.specs.Prelude.{Err, List, None, Ok, Option, Result, Some, false, replicate, true, ℕ, ◌+◌, ◌<◌, ◌≡◌, ◌≤◌}
use Rattle.std.specs.Io.KnownBytes.{Appends}
use Rattle.console.specs.Output.{AppendsBeginning}
use Rattle.calls.specs.declared.halt.Halt.{Halt}
use Rattle.calls.specs.declared.halt.Halt.TheVariants.{Console, Device, Halted, InitEnded}
use Rattle.calls.specs.Gives.{EventGives, LeavesTree, Makes}
use Rattle.kernel.specs.Disk.{IsLost, IsServed}
use Rattle.kernel.specs.Idle.{is_idle}
use Rattle.kernel.specs.Kernel.{Kernel, state_of}
use Rattle.tree.specs.Tree.{FileTree}
use Rattle.unixmodel.specs.Calls.{After}
use Rattle.unixmodel.specs.declared.event.Event.TheVariants.{Step}
use Rattle.unixmodel.specs.Failures.{Rises}
use Rattle.unixmodel.specs.Next.{next}
use Rattle.unixmodel.specs.Run.{run}
use Rattle.unixmodel.specs.State.{State}

-- what `count` steps make
abbrev pub stepped : Kernel → ℕ → After
stepped k count = run (state_of k) (replicate count Step)

-- `count` steps are done as the abstract Unix says, and the kernel goes on
pub record Went (old now : Kernel) (count : ℕ) (before after : Option (List ℕ)) : Type 0 where
  pub makes : Makes now (stepped old count) before after None
  pub served : IsServed old.tree now.tree

-- the last of `count` steps halts: those before it went on
pub record StopsAt (old new : Kernel) (count : ℕ) (before after : Option (List ℕ)) (rising : Type 0) (halt : Halt)
    : Type 0 where
  pub mid : Kernel
  pub done : ℕ
  pub counts : done + 1 ≡ count
  pub went : Went old mid done before before
  pub last : EventGives new (next (state_of mid) Step) before after rising (Err halt)
  pub leaves : LeavesTree {X = Unit {0}} mid.tree new.tree (Err halt)

-- the machine goes on, and a process runs or is ready
pub record IsBusy (s : State) : Type 0 where
  pub goes : s.halted ≡ None
  pub busy : is_idle s ≡ false

-- so it is before each of `count` steps
abbrev pub IsBusyFor : State → ℕ → Type 0
IsBusyFor s count = (done : ℕ) → done < count → IsBusy (run s (replicate done Step)).state

-- `count` steps went on, none only where nobody runs and none is ready; or the last of them halts
abbrev pub PieceGoes : Kernel → Kernel → ℕ → Option (List ℕ) → Option (List ℕ) → Type 0 → Result (Unit {0}) Halt
    → Type 0
PieceGoes old new count before after rising (Ok u) = Went old new count before after
    × (count ≡ 0 → is_idle (state_of new) ≡ true)
PieceGoes old new count before after rising (Err halt) = StopsAt old new count before after rising halt

-- what the first of `most` steps return, which are done at once
pub record PieceGives (old new : Kernel) (most : ℕ) (before after : Option (List ℕ)) (rising : Type 0) (count : ℕ)
    (result : Result (Unit {0}) Halt) : Type 0 where
  pub within : count ≤ most
  pub busy : IsBusyFor (state_of old) count
  pub goes : PieceGoes old new count before after rising result

-- the steps before the one at which the device failed are done as the abstract Unix says
pub record DeviceStops (old : Kernel) (count : ℕ) (before after : Option (List ℕ)) : Type 0 where
  pub done : ℕ
  pub more : done < count
  pub goes : (stepped old done).state.halted ≡ None
  pub printed : Appends before after (stepped old done).bytes

-- the console's count of failures rose at the step after the first `done`, a beginning of what all print was printed,
-- and the files are those that the first `done` steps leave
pub record ConsoleStops (old new : Kernel) (count : ℕ) (before after : Option (List ℕ)) (rising : Type 0) : Type 0 where
  pub rises : rising
  pub printed : AppendsBeginning before after (stepped old count).bytes
  pub done : ℕ
  pub more : done < count
  pub goes : (stepped old done).state.halted ≡ None
  pub files : new.tree.files ≡ (stepped old done).state.files

-- what `count` steps return; rising: the console's count of failures rose
abbrev pub StepsGive : Kernel → Kernel → ℕ → Option (List ℕ) → Option (List ℕ) → Type 0 → Result (Unit {0}) Halt
    → Type 0
StepsGive old new count before after rising (Ok u) = Makes new (stepped old count) before after None
StepsGive old new count before after rising (Err (InitEnded status)) =
    Makes new (stepped old count) before after (Some status)
StepsGive old new count before after rising (Err Device) = DeviceStops old count before after
StepsGive old new count before after rising (Err Console) = ConsoleStops old new count before after rising
StepsGive old new count before after rising (Err Halted) = ⊥

-- the same where the bytes go to an output
abbrev pub PieceGivesTo : {W : Type 0} → (W → Option (List ℕ)) → (W → ℕ) → Kernel → Kernel → W → W → ℕ → ℕ
    → Result (Unit {0}) Halt → Type 0
PieceGivesTo contents failures old new from to most count result =
    PieceGives old new most (contents from) (contents to) (Rises (failures from) (failures to)) count result

abbrev pub StepsGiveTo : {W : Type 0} → (W → Option (List ℕ)) → (W → ℕ) → Kernel → Kernel → W → W → ℕ
    → Result (Unit {0}) Halt → Type 0
StepsGiveTo contents failures old new from to count result =
    StepsGive old new count (contents from) (contents to) (Rises (failures from) (failures to)) result

-- what steps with this result leave of the files of the disk
abbrev pub LeavesFiles : {X : Type 0} → FileTree → FileTree → Result X Halt → Type 0
LeavesFiles old new (Ok x) = IsServed old new
LeavesFiles old new (Err (InitEnded status)) = IsServed old new
LeavesFiles old new (Err Device) = IsLost old new
LeavesFiles old new (Err Console) = IsServed old new
LeavesFiles old new (Err Halted) = ⊥
