use Rattle.std.specs.Prelude.{OnOk}
use Rattle.machine.proofs.RunLemmas.{Rises-later, so_far_at_first, ok-of, on-all, on-err}
use Rattle.std.proofs.Common.{arith, sym, ◌∙◌, ◌≡◌}
use Rattle.session.proofs.Repeating.{busy-at-first, busy-on, ends, ends-by, steps-on}
use Rattle.session.proofs.play.advance.Goals.{then-more-eq0-via-else-more-eq0+then-is_err}
use Rattle.session.proofs.play.advance.Goals.{then-more-eq0-via-then-more-eq0}
use Rattle.session.proofs.play.advance.Goals as goal

pub loop-steps-init : goal.loop-steps-init
loop-steps-init g c = record {
  so_far = so_far_at_first _ _ c.requires;
  busy = busy-at-first c.args.machine.now;
  within = omega arith;
  later = omega arith;
}

pub loop-steps-preserved : goal.loop-steps-preserved
loop-steps-preserved g c =
    let before = c.loop-steps.invariant in
    let e = c.advance-more.ensures in
    let few = e.piece.within in
    let within = before.within in
    record {
      so_far = steps-on _ _ _ c.args.most c.loop-steps.steps c.advance-more.result.0 _ _ _ before.so_far _ _ tt
          c.advance-more.result.1 (ok-of c.advance-more.result.1 (sym c.is_err.ensures.value ∙ c.if-is_err.false))
          (λ r. Rises-later _ _ _ before.later r e.later) e.gives;
      busy = busy-on _ _ c.advance-more.new.self c.args.most c.loop-steps.steps c.advance-more.result.0 _ _
          (g.W.Out.contents c.advance-more.new.console) before.so_far before.busy e.piece.busy;
      within = omega (arith, few, within);
      later = let l = before.later in let m = e.later in omega (arith, l, m);
    }

pub returns-then-more-eq0-clause-advances : goal.returns-then-more-eq0-clause-advances
returns-then-more-eq0-clause-advances g c =
    let r = c.advance-more.result.1 in
    let before = c.loop-steps.invariant in
    let e = c.advance-more.ensures in
    let none : OnOk r (c.advance-more.result.0 ≡ 0) = elim c.then-more-eq0.branch [
      | then-more-eq0-via-then-more-eq0 w ↦ on-all _ r w.if-more-eq0.true
      | then-more-eq0-via-else-more-eq0+then-is_err w ↦ on-err _ r (sym w.is_err.ensures.value ∙ w.if-is_err.true)
    ] in
    ends-by _ _ _ c.args.most c.loop-steps.steps c.advance-more.result.0 _ _ _ before.so_far _ _ r before.busy
    before.within (λ r. Rises-later _ _ _ before.later r e.later) e.gives e.piece none

pub returns-clause-advances : goal.returns-clause-advances
returns-clause-advances g c =
    let before = c.loop-steps.invariant in
    ends _ _ c.args.most c.loop-steps.steps _ _ _ before.so_far before.busy before.within c.loop-steps-test.false
