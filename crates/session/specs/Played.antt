-- What a session returns for events and looks, and what it leaves. Its disk is in memory and never fails.
use Rattle.std.proofs.Common.{Global, Vec}
use Rattle.std.specs.Prelude.{Err, IsErrOf, List, Ok, OnOk, Option, Result, Some, [], false, length, replicate, true, ℕ}
use Rattle.std.specs.Prelude.{◌<◌, ◌∷◌, ◌≡◌, ◌≤◌}
use Rattle.calls.specs.declared.halt.Halt.{Halt}
use Rattle.calls.specs.declared.halt.Halt.TheVariants.{Console, Device, Halted, InitEnded}
use Rattle.calls.specs.Steps.{IsBusyFor}
use Rattle.kernel.specs.Idle.{is_idle}
use Rattle.machine.specs.Booted.{IsUnbooted}
use Rattle.machine.specs.declared.fault.BootFault.{BootFault}
use Rattle.machine.specs.declared.fault.BootFault.TheVariants as fault
use Rattle.machine.specs.Gives.{RunGives, StepGives}
use Rattle.machine.specs.Looks.{LookGives}
use Rattle.machine.specs.View.{View}
use Rattle.session.specs.declared.play.Ran.{Ran}
use Rattle.session.specs.declared.session.Session.{Session}
use Rattle.unixmodel.specs.Calls.{After}
use Rattle.unixmodel.specs.declared.event.Event.{Event}
use Rattle.unixmodel.specs.declared.event.Event.TheVariants.{Step}
use Rattle.unixmodel.specs.Image.{Denotes}
use Rattle.unixmodel.specs.Shown.{left}
use Rattle.unixmodel.specs.Failures.{Rises}

-- the console's bytes that nobody took yet
abbrev pub console_of : Session → List ℕ
console_of s = s.console.inner.items

-- how often the console's writer has failed
abbrev pub console_failures : Session → ℕ
console_failures s = s.console.failed

-- why a machine doesn't boot from an image
abbrev pub Refuses : List ℕ → ℕ → BootFault → Type 0
Refuses image frames fault.Device = ⊥
Refuses image frames f = IsUnbooted {D = Unit {0}} (λ u. []) (λ u. 0) tt image frames f

-- ---- events

-- what an event that makes `a` returns, with the console's bytes before and after; rising: the count of failures of the
-- console's writer rose
abbrev pub StepTells : View → View → After → List ℕ → List ℕ → Type 0 → Result (Unit {0}) Halt → Type 0
StepTells old new a before after rising (Err Device) = ⊥
StepTells old new a before after rising result = StepGives old new a (Some before) (Some after) rising result

abbrev pub StepAnswers : Session → Session → After → Result (Unit {0}) Halt → Type 0
StepAnswers old new a result =
    StepTells old.machine new.machine a (console_of old) (console_of new)
    (Rises (console_failures old) (console_failures new)) result

-- what a list of events returns
abbrev pub Tells : View → View → List Event → List ℕ → List ℕ → Type 0 → Result (Unit {0}) Halt → Type 0
Tells old new events before after rising (Err Device) = ⊥
Tells old new events before after rising result = RunGives old new events (Some before) (Some after) rising result

abbrev pub Answers : Session → Session → List Event → Result (Unit {0}) Halt → Type 0
Answers old new events result =
    Tells old.machine new.machine events (console_of old) (console_of new)
    (Rises (console_failures old) (console_failures new)) result

-- ---- a run until nobody is ready

-- at most `most` steps were taken, each while a process ran or was ready, and fewer only where none does then
pub record IsAsFar (old new : View) (most : ℕ) (ran : Ran) : Type 0 where
  pub within : ran.steps ≤ most
  pub busy : IsBusyFor old.state ran.steps
  pub idle : OnOk ran.answer (ran.steps < most → is_idle new.state ≡ true)

-- what the run of a machine that takes events returns
pub record Advances (old new : View) (most : ℕ) (before after : Option (List ℕ)) (rising : Type 0) (ran : Ran) : Type 0
  where
    pub gives : RunGives old new (replicate ran.steps Step) before after rising ran.answer
    pub far : IsAsFar old new most ran

-- the same where the bytes go to an output
abbrev pub AdvancesTo : {W : Type 0} → (W → Option (List ℕ)) → (W → ℕ) → View → View → W → W → ℕ → Ran → Type 0
AdvancesTo contents failures old new from to most ran =
    Advances old new most (contents from) (contents to) (Rises (failures from) (failures to)) ran

-- what the run of a session returns; a machine that had stopped takes no step
pub record Runs (old new : Session) (most : ℕ) (ran : Ran) : Type 0 where
  pub answers : Answers old new (replicate ran.steps Step) ran.answer
  pub far : IsAsFar old.machine new.machine most ran
  pub none : IsErrOf ran.answer Halted → ran.steps ≡ 0

-- ---- looks, and the end

-- what a look at the files returns
abbrev pub LookTells : {X : Type 0} → View → View → (X → Type 0) → Result X Halt → Type 0
LookTells old new Told (Err Device) = ⊥
LookTells old new Told result = LookGives old new Told result

-- the console's bytes stay
abbrev pub Looks : {X : Type 0} → Session → Session → (X → Type 0) → Result X Halt → Type 0
Looks old new Told result = LookTells old.machine new.machine Told result × (console_of new ≡ console_of old)

-- the bytes of the disk, as many as it has, denote the files that are left without the processes
abbrev pub Saves : View → Result (Vec ℕ Global) Halt → Type 0
Saves m (Ok image) = (m.failed ≡ false) × (length image.items ∷ [] ≡ m.identity) × Denotes image.items (left m.state)
Saves m (Err (InitEnded status)) = ⊥
Saves m (Err Device) = ⊥
Saves m (Err Console) = ⊥
Saves m (Err Halted) = m.failed ≡ true
