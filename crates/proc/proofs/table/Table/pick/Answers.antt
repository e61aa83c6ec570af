use Rattle.proc.proofs.Common.{ap, refl, Inside}
use Rattle.proc.proofs.Waiting.{looks-begin, looks-on}
use Rattle.proc.proofs.table.Table.pick.Goals as goal

pub round-init : goal.round-init
round-init g c = (refl, looks-begin _ _ (rw (← c.self.view_is) at c.requires.awake))

pub round-preserved : goal.round-preserved
round-preserved g c = (
  ap (λ (x : Inside). record x { awake = c.clear.new.self }) c.round.invariant.0,
  rw c.clear.ensures (looks-on c.round.invariant.1 c.in-Some.ensures.finds c.next.ensures.all
      (record {
        shown = _;
        shows = c.as_slice.ensures.value;
        says = record { met = rw c.if-ready.false at c.ready.ensures };
      })),
)
