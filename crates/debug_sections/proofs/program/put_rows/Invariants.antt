use Rattle.std.proofs.Common.{◌≡◌, drop}
use Rattle.debug_sections.specs.Program.{rows_from, with_rows}
use Rattle.debug_sections.proofs.program.put_rows.Given as goal

-- the rows that are left, after those so far
abbrev pub invariant-loop-row : goal.invariant-loop-row
invariant-loop-row l =
    rows_from l.out.items l.old l.size (drop l.row-index l.rows) ≡ with_rows l.fn.out.items l.rows l.size
