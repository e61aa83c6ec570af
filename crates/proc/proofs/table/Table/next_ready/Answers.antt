use Rattle.proc.proofs.Waiting.{looked-all, looked-first, looked-none, looked-on}
use Rattle.proc.proofs.table.Table.next_ready.Goals as goal

pub round-init : goal.round-init
round-init g c = looked-none

pub next-requires-clause-turn : goal.next-requires-clause-turn
next-requires-clause-turn g c = c.round.invariant.in_round

pub round-preserved : goal.round-preserved
round-preserved g c =
    looked-on c.round.invariant c.self.inside.awake (rw (← c.self.view_is) at c.requires.awake) c.in-Some.ensures.finds
    (record {
      shown = _;
      shows = c.as_slice.ensures.value;
      says = record { met = rw c.if-ready.false at c.ready.ensures };
    })

pub returns-then-ready-clause-first : goal.returns-then-ready-clause-first
returns-then-ready-clause-first g c =
    rw (← c.self.view_is) (looked-first c.round.invariant c.self.inside.awake
    (rw (← c.self.view_is) at c.requires.awake) c.in-Some.ensures.finds
    (record {
      shown = _;
      shows = c.as_slice.ensures.value;
      says = record { met = rw c.if-ready.true at c.ready.ensures };
    }))

pub returns-clause-first : goal.returns-clause-first
returns-clause-first g c =
    rw (← c.self.view_is) (looked-all c.round.invariant c.self.inside.awake (rw (← c.self.view_is) at c.requires.awake)
    c.in_default.ensures.finds)
