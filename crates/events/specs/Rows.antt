-- The rows of a transcript: what they stand for, and how they are written.
use Rattle.std.specs.Prelude.{List, [], codes, false, flat_map, length, map, replicate, ℕ, ◌%◌, ◌++◌, ◌/◌, ◌∷◌, ◌<◌}
use Rattle.std.specs.Prelude.{◌≤◌}
use Rattle.std.specs.Fmt.{decimal, digit_glyph}
use Rattle.std.specs.List.{All}
use Rattle.events.specs.declared.row.Row.{Row}
use Rattle.events.specs.declared.row.Row.TheVariants.{Keys, Steps, Ticks}
use Rattle.events.specs.Fields.{MOST}
use Rattle.unixmodel.specs.declared.event.Event.{Event}
use Rattle.unixmodel.specs.declared.event.Event.TheVariants as event

abbrev pub row_events : Row → List Event
row_events (Steps n) = replicate n event.Step
row_events (Ticks n) = replicate n event.Tick
row_events (Keys keys) = map event.Key keys.items

abbrev pub rows_events : List Row → List Event
rows_events rows = flat_map row_events rows

-- ---- lines

-- a byte as two hexadecimal digits, with lower case letters
abbrev pub byte_text : ℕ → List ℕ
byte_text byte = digit_glyph false (byte / 16) ∷ digit_glyph false (byte % 16) ∷ []

abbrev pub bytes_text : List ℕ → List ℕ
bytes_text bytes = flat_map byte_text bytes

abbrev pub row_line : Row → List ℕ
row_line (Steps n) = codes "step " ++ decimal n
row_line (Ticks n) = codes "tick " ++ decimal n
row_line (Keys keys) = codes "keys " ++ bytes_text keys.items

-- a line ends with 0x0a
abbrev pub row_text : Row → List ℕ
row_text row = row_line row ++ 10 ∷ []

abbrev pub rows_text : List Row → List ℕ
rows_text rows = flat_map row_text rows

-- a row has no more events than a line may have, and its keys are bytes
abbrev pub IsRow : Row → Type 0
IsRow (Steps n) = n ≤ MOST
IsRow (Ticks n) = n ≤ MOST
IsRow (Keys keys) = All (λ key. key < 256) keys.items × (length keys.items ≤ 64)
