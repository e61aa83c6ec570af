-- What a run of a machine over events prints, how it ends, and what it leaves.
use Rattle.std.specs.Prelude.{Bool, IsTrue, List, None, Option, Result, Some, false, true, ℕ, ℤ, ◌≡◌, ◌⊎◌}
use Rattle.calls.specs.declared.halt.Halt.{Halt}
use Rattle.calls.specs.declared.halt.Halt.TheVariants as halt
use Rattle.console.specs.Output.{AppendsBeginning}
use Rattle.driver.specs.Driven.{Gives, Printed}
use Rattle.driver.specs.Tails.{written_of}
use Rattle.events.specs.Records.{Kept}
use Rattle.host.specs.Reports.{end_of}
use Rattle.host.specs.declared.report.End.{End}
use Rattle.host.specs.declared.report.End.TheVariants.{Halted, Running}
use Rattle.machine.specs.Gives.{DeviceFailsIn, IsDone}
use Rattle.machine.specs.Saved.{IsLost, IsSaved}
use Rattle.machine.specs.View.{IsUp, View}
use Rattle.unixmodel.specs.Run.{run}
use Rattle.unixmodel.specs.declared.event.Event.{Event}

-- how events end, with what is written out; where the console fails that is a beginning of what all print
abbrev pub PlaysOut : View → View → List Event → Option (List ℕ) → Option (List ℕ) → End → Type 0
PlaysOut old new events before after Running = IsDone old new (run old.state events) before after None
PlaysOut old new events before after (Halted (halt.InitEnded status)) =
    IsDone old new (run old.state events) before after (Some status)
PlaysOut old new events before after (Halted halt.Device) = DeviceFailsIn old new events before after
PlaysOut old new events before after (Halted halt.Console) = AppendsBeginning before after (run old.state events).bytes
PlaysOut old new events before after (Halted halt.Halted) = ⊥

-- a machine that was given events, whichever they were, ends so once the console's bytes are written out
pub record WritesOut (new : View) (to : Printed) (ended : Result (Unit {0}) Halt) (after : Option (List ℕ)) (end : End)
    : Type 0 where
  pub ends : (end ≡ Halted halt.Console) ⊎ (end ≡ end_of ended true)
  pub plays : (old : View) (events : List Event) (from : Printed) (kept keeps : Option Kept) → IsUp old
      → Gives events old new from to kept keeps ended → PlaysOut old new events (written_of from.contents) after end

-- there is a disk exactly where it was to be saved, and its bytes denote the files that the machine leaves
abbrev pub Saves : {D : Type 0} → (D → List (List ℕ)) → (D → List ℕ) → View → Bool → Option D → Type 0
Saves content identity m true (Some disk) = IsSaved content identity m disk
Saves content identity m false None = Unit {0}
Saves content identity m _ _ = ⊥

-- all events are done as the abstract Unix says, and then the disk is saved
pub record IsPlayed {D : Type 0} (content : D → List (List ℕ)) (identity : D → List ℕ) (first : View)
    (events : List Event) (before after : Option (List ℕ)) (saves : Bool) (halted : Option ℤ) (disk : Option D) : Type
    0 where
  pub last : View
  pub done : IsDone first last (run first.state events) before after halted
  pub saved : Saves content identity last saves disk

-- an access of the device failed as the machine was saved
pub record FailsToSave {D : Type 0} (identity : D → List ℕ) (count : D → ℕ) (first last : View) (events : List Event)
    (before after : Option (List ℕ)) (saves : Bool) : Type 0 where
  pub wanted : IsTrue saves
  pub halted : Option ℤ
  pub done : IsDone first last (run first.state events) before after halted
  pub lost : IsLost identity count last

-- the machine's count of failures is that of a device: of one that can't fail it is 0
abbrev pub HasDevice : {D : Type 0} → (D → ℕ) → View → Type 0
HasDevice {D} count m = (device : D) × (count device ≡ m.failures)

-- what events leave of a machine, which has not failed yet: where the device or the console fails, no disk
abbrev pub Leaves : {D : Type 0} → (D → List (List ℕ)) → (D → List ℕ) → (D → ℕ) → View → List Event → Option (List ℕ)
    → Option (List ℕ) → Bool → End → Option D → Type 0
Leaves content identity count first events before after saves Running disk =
    IsPlayed content identity first events before after saves None disk
Leaves content identity count first events before after saves (Halted (halt.InitEnded status)) disk =
    IsPlayed content identity first events before after saves (Some status) disk
Leaves content identity count first events before after saves (Halted halt.Device) disk = (disk ≡ None)
    × ((last : View) × HasDevice count last × (DeviceFailsIn first last events before after
    ⊎ FailsToSave identity count first last events before after saves))
Leaves content identity count first events before after saves (Halted halt.Console) disk = (disk ≡ None)
    × AppendsBeginning before after (run first.state events).bytes
Leaves content identity count first events before after saves (Halted halt.Halted) disk = ⊥

-- what is left of a machine whose events ended so, whichever they were
abbrev pub LeavesOf : {D : Type 0} → (D → List (List ℕ)) → (D → List ℕ) → (D → ℕ) → View → Bool → End → End → Option D
    → Type 0
LeavesOf content identity count last saves ended end disk =
    (first : View) (events : List Event) (before after : Option (List ℕ))
    → PlaysOut first last events before after ended
    → Leaves content identity count first events before after saves end disk
