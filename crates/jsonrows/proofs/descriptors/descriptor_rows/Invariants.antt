use Rattle.std.proofs.Common.{◌≡◌}
use Rattle.jsonrows.specs.Rows.{rows_below}
use Rattle.jsonrows.proofs.descriptors.descriptor_rows.Given as goal

-- the rows of the descriptors so far
abbrev pub invariant-loop-descriptor : goal.invariant-loop-descriptor
invariant-loop-descriptor l = l.rows.items ≡ rows_below l.descriptors l.descriptor
