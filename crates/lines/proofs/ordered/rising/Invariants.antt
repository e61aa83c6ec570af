use Rattle.std.specs.List.{All}
use Rattle.lines.specs.Covering.{Rises}
use Rattle.lines.proofs.ordered.rising.Given as goal

-- those of the sequences so far whose rows do not fall
abbrev pub invariant-loop-sequence : goal.invariant-loop-sequence
invariant-loop-sequence l = All (Rises l.rows) l.rising.items
