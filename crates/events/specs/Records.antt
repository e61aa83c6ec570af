-- What is recorded.
use Rattle.std.specs.Prelude.{Bool, List, None, Option, Some, true, ⊤, ◌++◌, ◌≡◌}
use Rattle.unixmodel.specs.declared.event.Event.{Event}

-- what is known of a record: its events, and whether it may lose some of those that come
pub record Kept : Type 0 where
  pub events : List Event
  pub may_lose : Bool

-- a record that may lose some, as where memory runs out
abbrev pub noted : List Event → Kept
noted events = record { events = events; may_lose = true }

-- a record that knows its events got just these at its end; one that may lose some knows none from then on
abbrev pub Records : Option Kept → Option Kept → List Event → Type 0
Records None None events = ⊤
Records None (Some keeps) events = ⊥
Records (Some kept) None events = kept.may_lose ≡ true
Records (Some kept) (Some keeps) events =
    (keeps.events ≡ kept.events ++ events) × (keeps.may_lose ≡ kept.may_lose)
