-- What a step and a run of a machine return.
use Rattle.std.specs.Prelude.{Bool, Err, List, None, Ok, Option, Result, Some, [], false, length, take, true, ℕ, ℤ, ◌<◌}
use Rattle.std.specs.Prelude.{◌≡◌, ◌≤◌}
use Rattle.std.specs.Io.KnownBytes.{Appends}
use Rattle.unixmodel.specs.Failures.{Rises}
use Rattle.console.specs.Output.{AppendsBeginning}
use Rattle.calls.specs.declared.halt.Halt.{Halt}
use Rattle.calls.specs.declared.halt.Halt.TheVariants.{Console, Device, Halted, InitEnded}
use Rattle.machine.specs.View.{IsUp, View}
use Rattle.unixmodel.specs.Calls.{After}
use Rattle.unixmodel.specs.declared.event.Event.{Event}
use Rattle.unixmodel.specs.Run.{run}

-- all is as the abstract Unix says: the state with its files, how it halts, and the bytes on the console
pub record IsDone (old new : View) (a : After) (before after : Option (List ℕ)) (halted : Option ℤ) : Type 0 where
  pub state : new.state ≡ a.state
  pub halts : a.state.halted ≡ halted
  pub sound : new.failed ≡ false
  pub printed : Appends before after a.bytes
  pub same_device : new.identity ≡ old.identity
  pub later : old.failures ≤ new.failures

-- the count of failures of the device, which is the same, rose, and these bytes alone were printed
pub record DeviceFails (old new : View) (before after : Option (List ℕ)) (bytes : List ℕ) : Type 0 where
  pub rises : Rises old.failures new.failures
  pub later : old.failures ≤ new.failures
  pub failed : new.failed ≡ true
  pub printed : Appends before after bytes
  pub same_device : new.identity ≡ old.identity

-- the console's count of failures rose, and a beginning of these bytes was printed; the files are as they were, and the
-- device didn't fail
pub record ConsoleFails (old new : View) (before after : Option (List ℕ)) (rising : Type 0) (bytes : List ℕ) : Type 0
  where
    pub rises : rising
    pub failed : new.failed ≡ true
    pub printed : AppendsBeginning before after bytes
    pub files : new.state.files ≡ old.state.files
    pub same : new.failures ≡ old.failures
    pub same_device : new.identity ≡ old.identity

-- it takes no events, and nothing changed
pub record IsRefused (old new : View) (before after : Option (List ℕ)) : Type 0 where
  pub stopped : ¬ IsUp old
  pub same : new ≡ old
  pub printed : Appends before after []

-- what an event that makes `a` returns; rising: the console's count of failures rose
abbrev pub StepGives : View → View → After → Option (List ℕ) → Option (List ℕ) → Type 0 → Result (Unit {0}) Halt
    → Type 0
StepGives old new a before after rising (Ok u) = IsUp old × IsDone old new a before after None
StepGives old new a before after rising (Err (InitEnded status)) = IsUp old
    × IsDone old new a before after (Some status)
StepGives old new a before after rising (Err Device) = IsUp old × DeviceFails old new before after []
StepGives old new a before after rising (Err Console) = IsUp old × ConsoleFails old new before after rising a.bytes
StepGives old new a before after rising (Err Halted) = IsRefused old new before after

-- the events before the one at which the device failed are done as the abstract Unix says
pub record DeviceFailsIn (old new : View) (events : List Event) (before after : Option (List ℕ)) : Type 0 where
  pub done : ℕ
  pub more : done < length events
  pub goes : (run old.state (take done events)).state.halted ≡ None
  pub fails : DeviceFails old new before after (run old.state (take done events)).bytes

-- the console's count of failures rose at the event after the first `done`, a beginning of what all print was printed,
-- and the files are those that the first `done` events leave
pub record ConsoleFailsIn (old new : View) (events : List Event) (before after : Option (List ℕ)) (rising : Type 0)
    : Type 0 where
  pub rises : rising
  pub failed : new.failed ≡ true
  pub printed : AppendsBeginning before after (run old.state events).bytes
  pub done : ℕ
  pub more : done < length events
  pub goes : (run old.state (take done events)).state.halted ≡ None
  pub files : new.state.files ≡ (run old.state (take done events)).state.files
  pub same_device : new.identity ≡ old.identity
  pub later : old.failures ≤ new.failures

-- what a list of events returns
abbrev pub RunGives : View → View → List Event → Option (List ℕ) → Option (List ℕ) → Type 0 → Result (Unit {0}) Halt
    → Type 0
RunGives old new events before after rising (Ok u) = IsUp old × IsDone old new (run old.state events) before after None
RunGives old new events before after rising (Err (InitEnded status)) = IsUp old
    × IsDone old new (run old.state events) before after (Some status)
RunGives old new events before after rising (Err Device) = IsUp old × DeviceFailsIn old new events before after
RunGives old new events before after rising (Err Console) = IsUp old × ConsoleFailsIn old new events before after rising
RunGives old new events before after rising (Err Halted) = IsRefused old new before after

-- the same where the bytes go to an output: the bytes that it took, and how often it failed, are read off it
abbrev pub StepGivesTo : {W : Type 0} → (W → Option (List ℕ)) → (W → ℕ) → View → View → W → W → After
    → Result (Unit {0}) Halt → Type 0
StepGivesTo contents failures old new from to a result =
    StepGives old new a (contents from) (contents to) (Rises (failures from) (failures to)) result

abbrev pub RunGivesTo : {W : Type 0} → (W → Option (List ℕ)) → (W → ℕ) → View → View → W → W → List Event
    → Result (Unit {0}) Halt → Type 0
RunGivesTo contents failures old new from to events result =
    RunGives old new events (contents from) (contents to) (Rises (failures from) (failures to)) result

-- the result where the state halts so
abbrev pub halt_of : Option ℤ → Result (Unit {0}) Halt
halt_of None = Ok tt
halt_of (Some status) = Err (InitEnded status)

-- after this result of the kernel the machine has failed
abbrev pub fails : Result (Unit {0}) Halt → Bool
fails (Ok u) = false
fails (Err (InitEnded status)) = false
fails (Err Console) = true
fails (Err Device) = true
fails (Err Halted) = false
