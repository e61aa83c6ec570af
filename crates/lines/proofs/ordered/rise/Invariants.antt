use Rattle.lines.proofs.Covering.{RiseTo}
use Rattle.lines.proofs.ordered.rise.Given as goal

-- the addresses do not fall so far, up to the last one
abbrev pub invariant-loop-row : goal.invariant-loop-row
invariant-loop-row l = RiseTo l.rows l.row-index l.last
