use Rattle.proc.proofs.Seats.{among-all, among-free, among-more, among-none}
use Rattle.proc.proofs.table.least_above.Goals.{in-Some, in_default}
use Rattle.proc.proofs.table.least_above.Goals as goal

pub loop-place-init : goal.loop-place-init
loop-place-init c = among-none c.args.places.now

pub loop-place-preserved : goal.loop-place-preserved
loop-place-preserved c = elim c.match-place.branch [
  | in-Some w ↦ rw (w.least-is, w.lesser-least.ensures)
      (among-more _ _ _ c.loop-place-test.true _ c.loop-place.invariant w.in-Some.is)
  | in_default w ↦ rw w.least-is (among-free _ _ _ c.loop-place-test.true _ c.loop-place.invariant w.in_default.is)
]

pub returns : goal.returns
returns c = among-all _ _ _ c.loop-place-test.false c.loop-place.invariant
