-- The line of an address, from the sequence that begins nearest.
use Rattle.std.proofs.Common.{◌≡◌, ◌<◌, ◌==◌, ℕ, List, None, Option, Some, arith, false, true, subst, refl}
use Rattle.std.proofs.lemmas.Bool.Decides.{nat_tests}
use Rattle.std.specs.List.{All}
use Rattle.lines.specs.Covering.{IsNearest, covering, rows_of}
use Rattle.lines.specs.Found.{IsLineAt, file_name, line_seen, row_line}
use Rattle.lines.specs.declared.rows.Row.{Row}
use Rattle.lines.specs.declared.rows.Sequence.{Sequence}
use Rattle.lines.specs.declared.table.Line.{Line}
use Rattle.lines.specs.declared.table.Lines.{Lines}
use Rattle.lines.proofs.Covering.{nearest-unique, not-nearest}

-- the line of a row that was found
pub row-found : (lines : Lines) (unit : ℕ) (row : Row) (found : Option Row) (name : List ℕ) → Some row ≡ found
    → 0 < row.line → name ≡ file_name lines unit row.file → Some (name, row.line) ≡ row_line lines unit found
row-found lines unit row found name is some named =
    let no : (row.line == 0) ≡ false = grind (arith, nat_tests, some) in
    rw (named, ← is) (rw no refl)

-- one of line 0
pub row-zero : (lines : Lines) (unit : ℕ) (row : Row) (found : Option Row) → Some row ≡ found → row.line ≡ 0
    → None ≡ row_line lines unit found
row-zero lines unit row found is zero =
    let yes : (row.line == 0) ≡ true = grind (arith, nat_tests, zero) in
    rw (← is) (rw yes refl)

-- that of a row is that of an equal one
pub of-row : (lines : Lines) (unit : ℕ) (found other : Option Row) (result : Option Line) → found ≡ other
    → line_seen result ≡ row_line lines unit found → line_seen result ≡ row_line lines unit other
of-row lines unit found other result same is = rw same at is

module _ (lines : Lines) (address : ℕ) where
  -- all sequences begin after it
  pub line-none : All (λ (s : Sequence). address < s.start) lines.ordered.sequences.items
      → IsLineAt lines address None
  line-none all = record {
    found = λ s near. absurd (not-nearest lines.ordered.sequences.items address s all near);
    none = λ same. refl;
  }

  pub line-found : (s : Sequence) (result : Option Line) → IsNearest lines.ordered.sequences.items address s
      → line_seen result ≡ row_line lines s.unit (covering address (rows_of lines.ordered.rows.items s))
      → IsLineAt lines address result
  line-found s result near is = record {
    found = λ t other. subst (λ (q : Sequence). line_seen result
        ≡ row_line lines q.unit (covering address (rows_of lines.ordered.rows.items q)))
        (nearest-unique lines.ordered.sequences.items address s t near other) is;
    none = λ all. absurd (not-nearest lines.ordered.sequences.items address s all near);
  }
