-- A transcript, and the text of its rows.
use Rattle.std.specs.Prelude.{Bool, List, None, Option, Some, [], codes, drop, flat_map, if◌then◌else◌, map, replicate}
use Rattle.std.specs.Prelude.{take, ℕ, ◌++◌, ◌∷◌}
use Rattle.std.specs.List.{All}
use Rattle.std.specs.Str.{bytes_eq}
use Rattle.std.specs.Str.Parse.{digits_value}
use Rattle.events.specs.Fields.{hex_pair}
use Rattle.events.specs.Lines.{lines_of}
use Rattle.events.specs.Records.{Kept, noted}
use Rattle.events.specs.Rows.{IsRow, rows_events, rows_text}
use Rattle.events.specs.Scripts.{IsScriptOf}
use Rattle.events.specs.declared.row.Row.{Row}
use Rattle.unixmodel.specs.declared.event.Event.{Event}
use Rattle.unixmodel.specs.declared.event.Event.TheVariants as event

-- the events of the rows, and of the one that is still added to; none are known once some were lost
abbrev pub events_in : Bool → List Row → Row → Option Kept
events_in is_lost rows last = if is_lost then None else Some (noted (rows_events (rows ++ last ∷ [])))

-- a text of rows, read as a script, stands for the events of the rows
abbrev pub TranscriptsAreRead : Type 0
TranscriptsAreRead = (rows : List Row) → All IsRow rows → IsScriptOf (rows_text rows) (rows_events rows)

-- ---- the events of a text of rows

abbrev pub or_zero : Option ℕ → ℕ
or_zero None = 0
or_zero (Some n) = n

-- the bytes that hexadecimal digits write, two each
abbrev pub hex_bytes : List ℕ → List ℕ
hex_bytes (high ∷ low ∷ digits) = or_zero (hex_pair high low) ∷ hex_bytes digits
hex_bytes _ = []

-- the events of a row's line, by its first word
abbrev pub line_events : List ℕ → List Event
line_events line = if bytes_eq (take 5 line) (codes "step ") then replicate (digits_value 10 (drop 5 line)) event.Step
    else (if bytes_eq (take 5 line) (codes "tick ") then replicate (digits_value 10 (drop 5 line)) event.Tick
    else map event.Key (hex_bytes (drop 5 line)))

unfoldable pub text_events : List ℕ → List Event
text_events text = flat_map line_events (lines_of text)
