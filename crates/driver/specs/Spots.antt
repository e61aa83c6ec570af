-- Where a machine is as its source is asked.
use Rattle.std.specs.Prelude.{List, Option, ℕ, ◌≡◌}
use Rattle.std.specs.Io.KnownBytes.{Appends}
use Rattle.events.specs.declared.clock.Clock.{Clock}
use Rattle.unixmodel.specs.declared.event.Event.{Event}
use Rattle.unixmodel.specs.Run.{run}
use Rattle.unixmodel.specs.State.{State}

-- its state, what its console printed where that is known, and the clock that gives ticks
pub record Spot : Type 0 where
  pub state : State
  pub shown : Option (List ℕ)
  pub clock : Clock

-- events lead from one to the next
pub record Leads (s : Spot) (events : List Event) (t : Spot) : Type 0 where
  pub state : t.state ≡ (run s.state events).state
  pub shown : Appends s.shown t.shown (run s.state events).bytes
