-- The events that a script stands for.
use Rattle.std.specs.Prelude.{List, [], map, replicate, ◌++◌, ◌∷◌, ◌≡◌, ℕ}
use Rattle.events.specs.Commands.{IsCommand}
use Rattle.events.specs.Lines.{AreSaid, IsFaultOf, lines_of}
use Rattle.events.specs.declared.lines.TextFault.{TextFault}
use Rattle.events.specs.declared.lines.TextFault.TheVariants.{NoMemory}
use Rattle.events.specs.declared.script.lines.Command.{Command}
use Rattle.events.specs.declared.script.lines.Command.TheVariants as command
use Rattle.unixmodel.specs.declared.event.Event.{Event}
use Rattle.unixmodel.specs.declared.event.Event.TheVariants.{Key, Step, Tick}

-- a typed line ends with the key 0x0a
abbrev pub command_events : Command → List Event
command_events (command.Step n) = replicate n Step
command_events (command.Tick n) = replicate n Tick
command_events (command.Keys keys) = map Key keys.items
command_events (command.Type text) = map Key text.now ++ map Key (10 ∷ [])

abbrev pub script_events : List Command → List Event
script_events [] = []
script_events (c ∷ commands) = command_events c ++ script_events commands

-- whoever reads the text as a script gets just these events: each line says something, and all that they can say
-- stands for them
pub record IsScriptOf (text : List ℕ) (events : List Event) : Type 0 where
  pub same : (said : List Command) → AreSaid IsCommand (lines_of text) said → script_events said ≡ events
  pub sound : (fault : TextFault) → IsFaultOf IsCommand (lines_of text) fault → fault ≡ NoMemory
