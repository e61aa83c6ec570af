-- What a timeline's fields stand for.
use Rattle.std.specs.Prelude.{All, List, None, false, length, ℕ, ◌≡◌, ◌≤◌}
use Rattle.machine.specs.View.{View}
use Rattle.timeline.specs.declared.copies.Copied.{Copied}
use Rattle.timeline.specs.declared.timeline.Timeline.TheInside.{Inside}
use Rattle.timeline.specs.Line.{Line, state_at}
use Rattle.unixmodel.specs.declared.event.Event.{Event}
use Rattle.unixmodel.specs.State.{State}

-- a machine is at a time
pub record IsAt (start : State) (events : List Event) (n : ℕ) (m : View) : Type 0 where
  pub within : n ≤ length events
  pub sound : m.failed ≡ false
  pub state : m.state ≡ state_at start events n

-- a copy is at its time
abbrev pub IsCopy : State → List Event → Copied → Type 0
IsCopy start events c = IsAt start events c.at c.machine

abbrev pub line_of : Inside → Line
line_of t = record { start = t.begin.state; events = t.events; at = t.at }

-- the machine is at the run of the first n events, and each copy at that of its own
pub record IsTimeline (t : Inside) : Type 0 where
  pub sound : t.begin.failed ≡ false
  pub goes : t.begin.state.halted ≡ None
  pub here : IsAt t.begin.state t.events t.at t.machine
  pub near : IsCopy t.begin.state t.events t.near
  pub copies : All (IsCopy t.begin.state t.events) t.copies.items
