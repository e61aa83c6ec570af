-- What a script says.
use Rattle.std.specs.Prelude.{◌≡◌, ℕ, ◌++◌, List, codes}
use Rattle.events.specs.Fields.{IsCount, IsHexOf}
use Rattle.events.specs.declared.script.lines.Command.{Command}
use Rattle.events.specs.declared.script.lines.Command.TheVariants as command

-- the line is the command
abbrev pub IsCommand : List ℕ → Command → Type 0
IsCommand line (command.Step n) = (digits : List ℕ) × (line ≡ codes "step " ++ digits) × IsCount digits n
IsCommand line (command.Tick n) = (digits : List ℕ) × (line ≡ codes "tick " ++ digits) × IsCount digits n
IsCommand line (command.Keys keys) = (digits : List ℕ) × (line ≡ codes "keys " ++ digits) × IsHexOf digits keys.items
IsCommand line (command.Type text) = line ≡ codes "type " ++ text.now
