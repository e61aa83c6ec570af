-- What a command does to the line that is edited, and which keys it gives away.
use Rattle.std.specs.Prelude.{List, None, Option, Some, [], if◌then◌else◌, length, nat_lt, slice_get, zero, suc}
use Rattle.std.specs.Prelude.{ℕ, ◌+◌, ◌++◌, ◌-◌, ◌==◌, ◌∷◌}
use Rattle.line_editor.specs.Lines.{edited}
use Rattle.line_editor.specs.declared.keys.Command.{Command}
use Rattle.line_editor.specs.declared.keys.Command.TheVariants.{Change, End, Finish, Newer, Older}
use Rattle.line_editor.specs.declared.line.Edit.TheVariants as edit
use Rattle.arrayvec.specs.ArrayVec.{ArrayVec}

-- the keys that go to the machine: a finished line with its end, or ^D on an empty line
abbrev pub keys_of : Option Command → List ℕ × ℕ → Option (List ℕ)
keys_of None line = None
keys_of (Some (Change e)) line = None
keys_of (Some Older) line = None
keys_of (Some Newer) line = None
keys_of (Some Finish) line = Some (line.0 ++ 10 ∷ [])
keys_of (Some End) line = if length line.0 == 0 then Some (4 ∷ []) else None

-- a text with the cursor at its end
abbrev pub at_end : List ℕ → List ℕ × ℕ
at_end text = (text, length text)

-- the index after another one; after the last line comes a new one
abbrev pub next_place : ℕ → ℕ → ℕ
next_place place count = if nat_lt place count then place + 1 else place

-- the line after a command; `older` and `newer` are the texts of the history before and after
abbrev pub line_after : Option Command → List ℕ → List ℕ → List ℕ × ℕ → List ℕ × ℕ
line_after None older newer line = line
line_after (Some (Change e)) older newer line = edited e line
line_after (Some Older) older newer line = at_end older
line_after (Some Newer) older newer line = at_end newer
line_after (Some Finish) older newer line = ([], 0)
line_after (Some End) older newer line = if length line.0 == 0 then line else edited edit.Delete line

-- the text at an index of the history; after the last one it is empty
abbrev pub items_of : Option (ArrayVec ℕ) → List ℕ
items_of None = []
items_of (Some text) = text.items

abbrev pub text_at : List (ArrayVec ℕ) → ℕ → List ℕ
text_at lines place = items_of (slice_get lines place)
