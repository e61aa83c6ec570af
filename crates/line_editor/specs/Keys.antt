-- What keys mean: the control keys that readline knows, and the sequences of a terminal's keys.
use Rattle.std.specs.Prelude.{None, Option, Some, if◌then◌else◌, nat_le, nat_lt, ℕ, ◌==◌}
use Rattle.line_editor.specs.declared.line.Edit.TheVariants as edit
use Rattle.line_editor.specs.declared.keys.Command.{Command}
use Rattle.line_editor.specs.declared.keys.Command.TheVariants.{Change, End, Finish, Newer, Older}
use Rattle.line_editor.specs.declared.keys.Mode.{Mode}
use Rattle.line_editor.specs.declared.keys.Mode.TheVariants.{Escaped, Numbered, Plain, Sequence}

-- a key that is no part of a sequence
abbrev pub command_of : ℕ → Option Command
command_of key =
    if key == 2 then Some (Change edit.Left)
    else if key == 4 then Some End
    else if key == 5 then Some (Change edit.End)
    else if key == 6 then Some (Change edit.Right)
    else if key == 8 then Some (Change edit.Backspace)
    else if key == 10 then Some Finish
    else if key == 11 then Some (Change edit.Rest)
    else if key == 13 then Some Finish
    else if key == 14 then Some Newer
    else if key == 21 then Some (Change edit.Front)
    else if key == 23 then Some (Change edit.Word)
    else if key == 127 then Some (Change edit.Backspace)
    else if nat_lt key 32 then None
    else if nat_lt key 127 then Some (Change (edit.Insert key))
    else None

-- the letter that ends a sequence: A up, B down, C right, D left, F the end, H the beginning
abbrev pub letter_command : ℕ → Option Command
letter_command key =
    if key == 65 then Some Older
    else if key == 66 then Some Newer
    else if key == 67 then Some (Change edit.Right)
    else if key == 68 then Some (Change edit.Left)
    else if key == 70 then Some (Change edit.End)
    else if key == 72 then Some (Change edit.Home)
    else None

-- the digit of a sequence that ends with ~: 1 and 7 the beginning, 3 delete, 4 and 8 the end
abbrev pub number_command : ℕ → Option Command
number_command digit =
    if digit == 49 then Some (Change edit.Home)
    else if digit == 51 then Some (Change edit.Delete)
    else if digit == 52 then Some (Change edit.End)
    else if digit == 55 then Some (Change edit.Home)
    else if digit == 56 then Some (Change edit.End)
    else None

-- a key after an escape: `[` and `O` begin a sequence
abbrev pub escaped : ℕ → Mode × Option Command
escaped key = if key == 91 then (Sequence, None) else if key == 79 then (Sequence, None) else (Plain, None)

-- a key of a sequence: a digit, or the letter at its end
abbrev pub in_sequence : ℕ → Mode × Option Command
in_sequence key =
    if nat_lt key 48 then (Plain, None)
    else if nat_le key 57 then (Numbered key, None)
    else (Plain, letter_command key)

-- what a key does in a mode, and the mode after it
abbrev pub told : Mode → ℕ → Mode × Option Command
told Plain key = if key == 27 then (Escaped, None) else (Plain, command_of key)
told Escaped key = escaped key
told Sequence key = in_sequence key
told (Numbered digit) key = (Plain, if key == 126 then number_command digit else None)
