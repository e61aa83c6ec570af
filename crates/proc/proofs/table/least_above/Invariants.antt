use Rattle.proc.specs.Next.{IsNextOf}
use Rattle.proc.proofs.Seats.{is_among}
use Rattle.proc.proofs.table.least_above.Given as goal

-- it is the least of those in the slots so far
abbrev pub invariant-loop-place : goal.invariant-loop-place
invariant-loop-place l = IsNextOf (is_among l.places l.place-index) l.after l.least
