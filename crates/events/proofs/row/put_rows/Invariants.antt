use Rattle.std.proofs.Common.{◌≡◌, ◌++◌, take}
use Rattle.events.specs.Rows.{rows_text}
use Rattle.events.proofs.row.put_rows.Given as goal

abbrev pub invariant-loop-row : goal.invariant-loop-row
invariant-loop-row l = l.text.bytes.items ≡ l.fn.text.bytes.items ++ rows_text (take l.row-index l.rows)
