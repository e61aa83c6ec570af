use Rattle.proc.proofs.Common.{◌-◌, Answers}
use Rattle.proc.proofs.Waiting.{HasLooked}
use Rattle.proc.proofs.table.Table.next_ready.Given as goal

-- no slot of the turns so far is ready
abbrev pub invariant-round : goal.invariant-round
invariant-round g l = HasLooked (Answers g.F.Fn l.ready l.self-inside.places.items) l.self-inside.last l.turn

abbrev pub decreases-round : goal.decreases-round
decreases-round g l = 65 - l.turn
