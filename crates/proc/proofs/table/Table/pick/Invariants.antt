use Rattle.proc.proofs.Common.{◌-◌, ◌≡◌, Answers}
use Rattle.proc.proofs.Waiting.{IsLooking}
use Rattle.proc.proofs.table.Table.pick.Given as goal

-- the table is as it was, except for who is awake, and no slot of the turns so far is awake
abbrev pub invariant-round : goal.invariant-round
invariant-round g l =
    (l.self-inside ≡ record l.initial.self-inside { awake = l.self-inside.awake })
    × IsLooking (Answers g.F.Fn l.ready l.self-inside.places.items) l.self-inside.last l.self-inside.awake l.turn

abbrev pub decreases-round : goal.decreases-round
decreases-round g l = 65 - l.turn
