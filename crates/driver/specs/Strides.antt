-- Steps that are done in one go.
use Rattle.std.specs.Prelude.{[], replicate, true, ℕ, ◌<◌, ◌≡◌, ◌⊎◌}
use Rattle.calls.specs.Computing.{after_steps, computes}
use Rattle.calls.specs.Steps.{IsBusy}
use Rattle.events.specs.Paced.{paced}
use Rattle.machine.specs.View.{View}
use Rattle.events.specs.declared.clock.Clock.{Clock}
use Rattle.unixmodel.specs.Calls.{After, quiet}
use Rattle.unixmodel.specs.declared.event.Event.TheVariants.{Step}
use Rattle.unixmodel.specs.Run.{run}
use Rattle.unixmodel.specs.State.{State}

-- nothing was printed, and a process runs or is ready, or nothing has changed
abbrev pub HasStayed : State → After → Type 0
HasStayed s a = (a.bytes ≡ []) × (IsBusy a.state ⊎ (a.state ≡ s))

-- so it is before each of n steps
abbrev pub IsStill : State → Clock → ℕ → Type 0
IsStill s c n = (k : ℕ) → k < n → HasStayed s (run s (paced k c))

-- `count` instructions of the process that runs were done, none of which calls or faults
pub record Passes (old new : View) (count : ℕ) : Type 0 where
  pub steps : run old.state (replicate count Step) ≡ quiet new.state
  pub computing : (n : ℕ) → n < count → computes (after_steps old.state n) ≡ true
  pub same : new ≡ record old { state = new.state }
