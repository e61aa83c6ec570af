-- A line that is edited: its text, and how many of its bytes are before the cursor.
use Rattle.std.specs.Prelude.{Bool, List, [], drop, false, get_or, if◌then◌else◌, insert, length, nat_lt, suc, take}
use Rattle.std.specs.Prelude.{true, zero, ℕ, ◌+◌, ◌++◌, ◌-◌, ◌==◌}
use Rattle.line_editor.specs.declared.line.Edit.{Edit}
use Rattle.line_editor.specs.declared.line.Edit.TheVariants as edit

-- the most bytes of a line: with its end they fill the console's buffer
abbrev pub MOST : ℕ
MOST = 127

-- a byte before the cursor, if there is room
abbrev pub inserted : ℕ → List ℕ × ℕ → List ℕ × ℕ
inserted key line =
    if nat_lt (length line.0) MOST then (insert line.0 line.1 key, line.1 + 1) else line

-- without the bytes from an index up to another one
abbrev pub cut : ℕ → ℕ → List ℕ × ℕ → List ℕ × ℕ
cut from to line = (take from line.0 ++ drop to line.0, from)

-- one byte further to the front: a blank ends the search for the word's beginning, if a byte of the word was seen
abbrev pub word_step : Bool → Bool → ℕ → ℕ → ℕ → ℕ
word_step blank seen place skipped inside = if blank then (if seen then place else skipped) else inside

-- where the word before an index begins; `seen` says whether a byte of it was seen
unfoldable pub word_start : List ℕ → ℕ → Bool → ℕ
word_start text zero seen = zero
word_start text (suc n) seen =
    word_step (get_or text n 32 == 32) seen (suc n) (word_start text n false) (word_start text n true)

-- what an edit makes of a line
abbrev pub edited : Edit → List ℕ × ℕ → List ℕ × ℕ
edited (edit.Insert key) line = inserted key line
edited edit.Left line = (line.0, line.1 - 1)
edited edit.Right line = (line.0, if nat_lt line.1 (length line.0) then line.1 + 1 else line.1)
edited edit.Home line = (line.0, 0)
edited edit.End line = (line.0, length line.0)
edited edit.Backspace line = cut (line.1 - 1) line.1 line
edited edit.Delete line = if nat_lt line.1 (length line.0) then cut line.1 (line.1 + 1) line else line
edited edit.Word line = cut (word_start line.0 line.1 false) line.1 line
edited edit.Front line = cut 0 line.1 line
edited edit.Rest line = cut line.1 (length line.0) line
