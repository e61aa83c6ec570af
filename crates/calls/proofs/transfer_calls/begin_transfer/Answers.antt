use Rattle.calls.proofs.Common.{ap, here-of, pending_for, ◌∙◌}
use Rattle.calls.proofs.Transfers.{begins-below, begins-nothing, begins-on-it, begins-unnamed, begins-unusable}
use Rattle.calls.proofs.transfer_calls.begin_transfer.Goals as goal

pub returns-in_default-clause-answered : goal.returns-in_default-clause-answered
returns-in_default-clause-answered g c =
    begins-unnamed (here-of c.requires) c.args.end
    (rw (c.low.ensures, c.pending-pending.ensures) at c.in_default.ensures.target)

pub returns-in_default-natural-clause-answered : goal.returns-in_default-natural-clause-answered
returns-in_default-natural-clause-answered g c =
    begins-below (here-of c.requires) c.args.end
    (rw (c.low.ensures, c.pending-pending.ensures) at c.in-Some.ensures.target)
    (rw c.pending-pending.ensures at c.natural.ensures) c.in_default-natural.is

pub returns-then-count-eq0-clause-answered : goal.returns-then-count-eq0-clause-answered
returns-then-count-eq0-clause-answered g c =
    begins-nothing (here-of c.requires) c.args.end
    (rw (c.low.ensures, c.pending-pending.ensures) at c.in-Some.ensures.target)
    (rw c.pending-pending.ensures at c.natural.ensures) c.in-Some-natural.is c.if-count-eq0.true

pub returns-then-not-can_transfer-clause-answered : goal.returns-then-not-can_transfer-clause-answered
returns-then-not-can_transfer-clause-answered g c =
    begins-unusable (here-of c.requires) c.args.end
    (rw (c.low.ensures, c.pending-pending.ensures) at c.in-Some.ensures.target)
    (rw c.pending-pending.ensures at c.natural.ensures) c.in-Some-natural.is c.if-count-eq0.false
    (rw (c.from.ensures, c.pending-pending.ensures) at c.can_transfer.ensures) c.if-not-can_transfer.true

pub returns-clause-begins : goal.returns-clause-begins
returns-clause-begins g c =
    begins-on-it (here-of c.requires) c.args.end
    (rw (c.low.ensures, c.pending-pending.ensures) at c.in-Some.ensures.target)
    (rw c.pending-pending.ensures at c.natural.ensures) c.in-Some-natural.is c.if-count-eq0.false
    (rw (c.from.ensures, c.pending-pending.ensures) at c.can_transfer.ensures) c.requires c.if-not-can_transfer.false
    (rw (c.low.ensures, c.pending-pending.ensures) at c.in-Some.ensures.number)
    (c.pending-pending.ensures ∙ ap (pending_for c.args.kernel.now) c.call_on.ensures)
