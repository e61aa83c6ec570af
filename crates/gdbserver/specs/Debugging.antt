-- What a debugger leaves of a machine's line of times.
use Rattle.std.specs.Prelude.{List, ◌++◌, ◌≡◌}
use Rattle.timeline.specs.Line.{Line}
use Rattle.unixmodel.specs.declared.event.Event.{Event}

-- some events, and others after them
abbrev pub IsBeginningOf : List Event → List Event → Type 0
IsBeginningOf events all = (more : List Event) × (all ≡ events ++ more)

-- the start and the events are the old ones, with what was typed at their end after them
pub record OnlyAdds (old new : Line) : Type 0 where
  pub start : new.start ≡ old.start
  pub events : IsBeginningOf old.events new.events
