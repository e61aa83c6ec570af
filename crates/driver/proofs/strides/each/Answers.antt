use Rattle.driver.proofs.Common.{arith, replicate, ◌+◌, ◌-◌, ◌<◌, ◌≡◌, length-replicate, err_from_is_err_and}
use Rattle.driver.proofs.Common.{goes_on, repeat-next, Rises-later, so_far_at_first, stops}
use Rattle.driver.proofs.strides.each.Goals as goal

pub loop-left-init : goal.loop-left-init
loop-left-init g c =
    let none : c.args.times - c.args.times ≡ 0 = omega arith in
    record { so_far = rw none (so_far_at_first _ _ c.requires); later = omega arith; within = omega arith }

pub returns-in_err-give-clause-gives : goal.returns-in_err-give-clause-gives
returns-in_err-give-clause-gives g c =
    let p = err_from_is_err_and c.from_residual.result c.from_residual.ensures.1 in
    let before = c.loop-left.invariant in
    let more : c.args.times - c.loop-left.left < c.args.times = omega (arith, before.within, c.loop-left-test.true) in
    rw (p.1, p.2) (stops _ _ _ (c.args.times - c.loop-left.left) (replicate c.args.times c.args.event) _ _ _ _ _ _ _
    (rw (length-replicate c.args.times c.args.event) more)
    (repeat-next _ _ _ more) before.so_far (λ r. Rises-later _ _ _ before.later r c.give.ensures.later)
    c.in_err-give.ensures.gives)

pub loop-left-preserved : goal.loop-left-preserved
loop-left-preserved g c =
    let before = c.loop-left.invariant in
    let more : c.args.times - c.loop-left.left < c.args.times = omega (arith, before.within, c.loop-left-test.true) in
    let next : c.args.times - (c.loop-left.left - 1) ≡ c.args.times - c.loop-left.left + 1 =
    omega (arith, before.within, c.loop-left-test.true) in
    record {
      so_far = rw next (goes_on _ _ _ (c.args.times - c.loop-left.left) (replicate c.args.times c.args.event) _ _ _ _
          (rw (length-replicate c.args.times c.args.event) more)
          (repeat-next _ _ _ more) before.so_far c.in_ok-give.ensures.gives.1);
      later = let l = before.later in let m = c.give.ensures.later in omega arith;
      within = omega arith;
    }
