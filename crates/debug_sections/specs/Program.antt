-- The line number program (DWARF 4, section 6.2).
use Rattle.std.specs.Prelude.{Bool, List, [], if◌then◌else◌, length, min, nat_le, nat_lt, ℕ, ◌%◌, ◌&&◌, ◌*◌, ◌+◌, ◌++◌}
use Rattle.std.specs.Prelude.{◌-◌, ◌/◌, ◌==◌, ◌^◌, ◌∷◌}
use Rattle.std.specs.Borrow.{Bor}
use Rattle.debug_sections.specs.Bytes.{half, piece, small, with_address_advance, with_line_advance, word}
use Rattle.debug_sections.specs.declared.tables.Row.{Row}

-- the special opcode that leads from a row to another one, if there is one: `line_base` is -5, `line_range` 14,
-- `opcode_base` 13
abbrev pub opcode : Row → Row → ℕ
opcode old new = (new.address - old.address) * 14 + (new.line + 5 - old.line) + 13

abbrev pub is_special : Row → Row → Bool
is_special old new = nat_le old.line (new.line + 5) && nat_lt (new.line + 5 - old.line) 14
    && nat_le old.address new.address && nat_le (opcode old new) 255

-- `DW_LNS_set_file`, if it is another file: they are counted from 1, and there are fewer than 2 ^ 14
abbrev pub with_file : List ℕ → ℕ → ℕ → List ℕ
with_file out old new = if old == new then out
    else out ++ (4 ∷ piece (new % 16384 + 1) ∷ (new % 16384 + 1) / 128 % 128 ∷ [])

-- the difference of two lines, modulo 2 ^ 28
abbrev pub line_advance : ℕ → ℕ → ℕ
line_advance old new = (new + (2 ^ 64 - old)) % 2 ^ 64 % 2 ^ 28

-- a row, after another one
unfoldable pub with_row : List ℕ → Row → Row → List ℕ
with_row out old new = if is_special old new then with_file out old.file new.file ++ (opcode old new % 256 ∷ [])
    else with_address_advance (with_line_advance (with_file out old.file new.file) (line_advance old.line new.line))
    (new.address - old.address) ++ (1 ∷ [])

-- all rows, and the end of the sequence at the program's end
unfoldable pub rows_from : List ℕ → Row → ℕ → List Row → List ℕ
rows_from out old size [] = with_address_advance out (size - old.address) ++ (0 ∷ 1 ∷ 1 ∷ [])
rows_from out old size (row ∷ rows) = rows_from (with_row out old row) row size rows

-- `DW_LNE_set_address` of 0, and the rows
unfoldable pub with_rows : List ℕ → List Row → ℕ → List ℕ
with_rows out rows size = rows_from (out ++ (0 ∷ 9 ∷ 2 ∷ 0 ∷ 0 ∷ 0 ∷ 0 ∷ 0 ∷ 0 ∷ 0 ∷ 0 ∷ []))
    (record { address = 0; file = 0; line = 1 }) size rows

-- names of files, each in no directory, of no time and length
unfoldable pub files_from : List ℕ → List (Bor (List ℕ)) → List ℕ
files_from out [] = out
files_from out (file ∷ files) = files_from (out ++ file.now ++ (0 ∷ 0 ∷ 0 ∷ 0 ∷ [])) files

-- from `minimum_instruction_length` to `standard_opcode_lengths`, no directories, and the files
unfoldable pub with_files : List ℕ → List (Bor (List ℕ)) → List ℕ
with_files out files = files_from
    (out ++ (1 ∷ 1 ∷ 1 ∷ 251 ∷ 14 ∷ 13 ∷ 0 ∷ 1 ∷ 1 ∷ 1 ∷ 1 ∷ 0 ∷ 0 ∷ 0 ∷ 1 ∷ 0 ∷ 0 ∷ 1 ∷ []) ++ (0 ∷ [])) files
    ++ (0 ∷ [])

-- how many bytes come after the first length
abbrev pub unit_length : List ℕ → List ℕ → ℕ
unit_length header program = min (min (length header + length program) (2 ^ 64 - 1) + 6) (2 ^ 64 - 1)

unfoldable pub with_parts : List ℕ → List ℕ → List ℕ → List ℕ
with_parts out header program = out ++ word (small (unit_length header program)) ++ half 4
    ++ word (small (length header)) ++ header ++ program

-- the section `.debug_line`
unfoldable pub with_lines : List ℕ → List (Bor (List ℕ)) → List Row → ℕ → List ℕ
with_lines out files rows size = with_parts out (with_files [] files) (with_rows [] rows size)
