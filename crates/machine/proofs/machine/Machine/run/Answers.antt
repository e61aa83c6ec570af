use Rattle.machine.proofs.Common.{arith, err_from_is_err_and, length, take_more, ◌<◌}
use Rattle.machine.proofs.RunLemmas.{Rises-later, so_far_at_first, goes_on, stops}
use Rattle.machine.proofs.machine.Machine.run.Goals as goal

pub loop-event-init : goal.loop-event-init
loop-event-init g c = record
    { so_far = so_far_at_first _ _ (c.is_stopped.ensures.up c.if-is_stopped.false); later = omega arith }

pub returns-in_err-step-clause-gives : goal.returns-in_err-step-clause-gives
returns-in_err-step-clause-gives g c =
    let p = err_from_is_err_and c.from_residual.result c.from_residual.ensures.1 in
    let more : c.loop-event.event-index < length c.args.events.now = omega arith in
    rw (p.1, p.2) (stops _ _ _ c.loop-event.event-index c.args.events.now _ _ _ _ _ _ _ more (take_more _ _ _ more)
    c.loop-event.invariant.so_far
    (λ r. Rises-later _ _ _ c.loop-event.invariant.later r c.step.ensures.later) c.in_err-step.ensures.gives)

pub loop-event-preserved : goal.loop-event-preserved
loop-event-preserved g c =
    let more : c.loop-event.event-index < length c.args.events.now = omega arith in
    record {
      so_far = goes_on _ _ _ c.loop-event.event-index c.args.events.now _ _ _ _ more (take_more _ _ _ more)
          c.loop-event.invariant.so_far c.in_ok-step.ensures.gives.1;
      later = let l = c.loop-event.invariant.later in let m = c.step.ensures.later in omega arith;
    }
