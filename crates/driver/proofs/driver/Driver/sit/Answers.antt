use Rattle.std.proofs.Common.{ap, sym, ◌∙◌}
use Rattle.driver.proofs.Sitting.{session-ends, session-goes-on, session-halts, session-halts-first, session-lost}
use Rattle.driver.proofs.Sitting.{session-tires, sits-asked, sits-begins, sits-flushed}
use Rattle.driver.proofs.Walking.{far-up, lost}
use Rattle.driver.proofs.driver.Driver.sit.Goals as goal

pub returns-in_err-work : goal.returns-in_err-work
returns-in_err-work g c =
    rw (lost _ c.from_residual.ensures.1) (session-halts-first c.work.ensures.gives c.in_err-work.ensures.given)

pub loop-moves-init : goal.loop-moves-init
loop-moves-init g c = sits-begins c.work.ensures.gives c.in_ok-work.ensures.given

pub returns-then-is_err : goal.returns-then-is_err
returns-then-is_err g c =
    let f = c.flush.ensures in
    session-lost c.loop-moves.invariant f.machine (ap g.R.Terminal.gives f.keeper) (ap g.R.Record.kept f.keeper) f.kept
    f.later c.flush.result f.cause (sym c.is_err.ensures.value ∙ c.if-is_err.true)

pub returns-then-is_end : goal.returns-then-is_end
returns-then-is_end g c =
    let f = c.flush.ensures in
    session-ends
    (sits-asked
    (sits-flushed c.loop-moves.invariant f.machine (ap g.R.Terminal.gives f.keeper) (ap g.R.Record.kept f.keeper)
    f.clock f.kept f.later)
    c.ask-given.ensures.kept)
    c.ask-given.result c.ask-given.ensures.gives (sym c.is_end.ensures ∙ c.if-is_end.true)

pub obey-requires-clause-up : goal.obey-requires-clause-up
obey-requires-clause-up g c = rw c.flush.ensures.machine (far-up c.loop-moves.invariant.far)

pub obey-requires-clause-off : goal.obey-requires-clause-off
obey-requires-clause-off g c = c.flush.ensures.clock ∙ c.loop-moves.invariant.off

pub obey-requires-clause-more : goal.obey-requires-clause-more
obey-requires-clause-more g c = sym c.is_end.ensures ∙ c.if-is_end.false

pub returns-in_err-obey : goal.returns-in_err-obey
returns-in_err-obey g c =
    let f = c.flush.ensures in
    rw (lost _ c.from_residual-in_err-obey.ensures.1, c.obey.ensures.gives)
    (session-halts
    (sits-asked
    (sits-flushed c.loop-moves.invariant f.machine (ap g.R.Terminal.gives f.keeper) (ap g.R.Record.kept f.keeper)
    f.clock f.kept f.later)
    c.ask-given.ensures.kept)
    c.ask-given.result c.ask-given.ensures.gives c.in_err-obey.ensures.given)

pub loop-moves-preserved : goal.loop-moves-preserved
loop-moves-preserved g c =
    let f = c.flush.ensures in
    rw c.obey.ensures.gives
    (session-goes-on
    (sits-asked
    (sits-flushed c.loop-moves.invariant f.machine (ap g.R.Terminal.gives f.keeper) (ap g.R.Record.kept f.keeper)
    f.clock f.kept f.later)
    c.ask-given.ensures.kept)
    c.ask-given.result c.ask-given.ensures.gives c.in_ok-obey.ensures.given)

pub returns : goal.returns
returns g c = session-tires c.loop-moves.invariant c.loop-moves-test.false c.loop-moves.auto._moves-end
