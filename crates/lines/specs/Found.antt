-- The line that an address is of.
use Rattle.std.proofs.Common.{Global, Vec}
use Rattle.std.specs.Prelude.{◌≡◌, ◌<◌, ◌==◌, ◌∷◌, [], List, None, Option, Some, ℕ, if◌then◌else◌}
use Rattle.std.specs.Prelude.{slice_get}
use Rattle.std.specs.List.{All}
use Rattle.sections.specs.Headers.{text_at}
use Rattle.lines.specs.Covering.{IsNearest, covering, rows_of}
use Rattle.lines.specs.declared.files.FileName.{FileName}
use Rattle.lines.specs.declared.files.FileName.TheVariants.{Here, LineStrings, Strings, Unknown}
use Rattle.lines.specs.declared.rows.Row.{Row}
use Rattle.lines.specs.declared.rows.Sequence.{Sequence}
use Rattle.lines.specs.declared.table.Line.{Line}
use Rattle.lines.specs.declared.table.Lines.{Lines}

-- what comes after the last '/' of a text, or what is kept if there is none
abbrev pub after_slash : List ℕ → List ℕ → List ℕ
after_slash kept [] = kept
after_slash kept (c ∷ text) = after_slash (if c == 47 then text else kept) text

-- a name without the directory before it
abbrev pub without_directory : List ℕ → List ℕ
without_directory name = after_slash name name

-- the text of a file's name
abbrev pub name_text : Lines → Option FileName → List ℕ
name_text lines None = []
name_text lines (Some (Here name)) = name.now
name_text lines (Some (Strings offset)) = text_at lines.strings.now offset
name_text lines (Some (LineStrings offset)) = text_at lines.line_strings.now offset
name_text lines (Some Unknown) = []

-- the files of a unit
abbrev pub files_of : Option (Vec FileName Global) → List FileName
files_of None = []
files_of (Some files) = files.items

-- the name of a unit's file, by their numbers
abbrev pub file_name : Lines → ℕ → ℕ → List ℕ
file_name lines unit file =
    without_directory (name_text lines (slice_get (files_of (slice_get lines.units.items unit)) file))

-- a line, as the name of its file and its number
abbrev pub line_seen : Option Line → Option (List ℕ × ℕ)
line_seen None = None
line_seen (Some line) = Some (line.file.now, line.line)

-- the line of a row: none for line 0
abbrev pub row_line : Lines → ℕ → Option Row → Option (List ℕ × ℕ)
row_line lines unit None = None
row_line lines unit (Some row) = if row.line == 0 then None else Some (file_name lines unit row.file, row.line)

-- an address is of the line of the row that covers it, in the sequence that begins nearest; where all begin after it
-- it is of none
pub record IsLineAt (lines : Lines) (address : ℕ) (result : Option Line) : Type 0 where
  pub found : (sequence : Sequence) → IsNearest lines.ordered.sequences.items address sequence
      → line_seen result
      ≡ row_line lines sequence.unit (covering address (rows_of lines.ordered.rows.items sequence))
  pub none : All (λ (s : Sequence). address < s.start) lines.ordered.sequences.items → line_seen result ≡ None
