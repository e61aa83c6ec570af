-- The events that a script wants.
use Rattle.std.specs.Prelude.{List, Option, Result, Some, [], ℕ, ◌≡◌}
use Rattle.calls.specs.declared.halt.Halt.{Halt}
use Rattle.driver.specs.Pacing.{Follows}
use Rattle.driver.specs.Spots.{Spot}
use Rattle.driver.specs.declared.wanted.Wanted.{Wanted}
use Rattle.driver.specs.declared.wanted.Wanted.TheVariants.{Keys, Line, Steps, Ticks}
use Rattle.events.specs.Scripts.{script_events}
use Rattle.events.specs.declared.clock.Clock.TheVariants.{Off}
use Rattle.events.specs.declared.script.lines.Command.{Command}
use Rattle.events.specs.declared.script.lines.Command.TheVariants as command
use Rattle.unixmodel.specs.declared.event.Event.{Event}

-- the keys that a command types
abbrev pub keys_of : Option Command → List ℕ
keys_of (Some (command.Keys keys)) = keys.items
keys_of (Some (command.Type text)) = text.now
keys_of _ = []

-- while no clock runs
abbrev pub WantsScript : List Command → Spot → Result (Unit {0}) Halt → List Event → Type 0
WantsScript commands s result events = s.clock ≡ Off → Follows (script_events commands) result events

abbrev pub wanted_of : Command → Wanted
wanted_of (command.Step n) = Steps n
wanted_of (command.Tick n) = Ticks n
wanted_of (command.Keys keys) = Keys
wanted_of (command.Type text) = Line
