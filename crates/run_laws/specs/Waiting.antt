-- How long a process waits for its turn.
use Rattle.std.specs.Prelude.{List, Some, length, ℕ, ◌<◌, ◌≡◌}
use Rattle.unixmodel.specs.declared.event.Event.{Event}
use Rattle.unixmodel.specs.Files.{Files}
use Rattle.unixmodel.specs.Run.{IsPassedOver, NoneTwice, run, turns}
use Rattle.unixmodel.specs.Start.{start, start_flat}
use Rattle.unixmodel.specs.State.{State, place_limit}

-- the slot that was picked last is one of the 64: at each start, and after each run
pub record LastIsPlace : Type 0 where
  pub starts : (files : Files) (blocks frames : ℕ) (s : State) → start files blocks frames ≡ Some s
      → s.last < place_limit
  pub starts_flat : (bytes : List ℕ) (frames : ℕ) (s : State) → start_flat bytes frames ≡ Some s → s.last < place_limit
  pub stays : (s : State) (events : List Event) → s.last < place_limit → (run s events).state.last < place_limit

-- no slot is picked twice over these events, so there are at most 63 turns
pub record IsBounded (s : State) (events : List Event) : Type 0 where
  pub none_twice : NoneTwice (turns s events)
  pub few : length (turns s events) < place_limit

-- wherever a process is passed over
abbrev pub WaitsBounded : Type 0
WaitsBounded = (s : State) (i : ℕ) (events : List Event) → s.last < place_limit → i < place_limit
    → IsPassedOver i s events → IsBounded s events
