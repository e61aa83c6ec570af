-- Events, or a beginning of them.
use Rattle.std.specs.Prelude.{Err, List, Ok, Result, ◌≡◌}
use Rattle.calls.specs.declared.halt.Halt.{Halt}
use Rattle.events.specs.Paced.{Begins}
use Rattle.unixmodel.specs.declared.event.Event.{Event}

-- these are all events, or a beginning of them where the machine halted
abbrev pub Follows : List Event → Result (Unit {0}) Halt → List Event → Type 0
Follows all (Ok u) events = events ≡ all
Follows all (Err halt) events = Begins events all
