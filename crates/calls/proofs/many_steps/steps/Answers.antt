use Rattle.calls.proofs.Common.{arith, err_from_is_err_and, ◌+◌, ◌-◌}
use Rattle.calls.proofs.Pieces.{stops-rest, went-all, went-idle, went-none, went-trans, went-up, Rises-later}
use Rattle.calls.proofs.many_steps.steps.Goals as goal

pub loop-done-init : goal.loop-done-init
loop-done-init g c = record
    { within = omega arith; went = went-none _ c.requires.goes c.requires.up; later = omega arith }

pub advance-more-requires : goal.advance-more-requires
advance-more-requires g c = let t =
    c.loop-done-test.true in record
    { goes = went-up c.loop-done.invariant.went; up = c.loop-done.invariant.went.served.up; some = omega (arith, t) }

pub returns-in_err-ended : goal.returns-in_err-ended
returns-in_err-ended g c =
    let p = err_from_is_err_and c.from_residual.result c.from_residual.ensures.1 in
    let before = c.loop-done.invariant in
    let few = c.advance-more.ensures.does.within in
    let within = before.within in
    let later = c.advance-more.ensures.later in
    let all = stops-rest c.advance-more.result.0 c.args.count before.went c.requires.goes (omega (arith, within, few))
    (λ r. Rises-later _ _ _ before.later r later) (rw c.in_err-ended.was at c.advance-more.ensures.does.goes) in
    rw (p.1, p.2) (record { does = all.0; tree = all.1; later = let l = before.later in omega (arith, l, later) })

pub returns-then-more-eq0 : goal.returns-then-more-eq0
returns-then-more-eq0 g c =
    let before = c.loop-done.invariant in
    let rest = c.args.count - (c.loop-done.done + c.advance-more.result.0) in
    let few = c.advance-more.ensures.does.within in
    let within = before.within in
    let goes = rw c.in_ok-ended.was at c.advance-more.ensures.does.goes in
    let went = went-trans before.went c.requires.goes goes.0 in
    let all = went-trans went c.requires.goes
    (went-idle _ (went-up went) went.served.up rest (goes.1 c.if-more-eq0.true)) in
    record {
      does = went-all all c.args.count (omega (arith, within, few)) (omega arith);
      tree = went.served;
      later = let l = before.later in let m = c.advance-more.ensures.later in omega (arith, l, m);
    }

pub loop-done-preserved : goal.loop-done-preserved
loop-done-preserved g c =
    let before = c.loop-done.invariant in
    let within = before.within in
    let few = c.advance-more.ensures.does.within in
    record {
      within = omega (arith, within, few);
      went = went-trans before.went c.requires.goes (rw c.in_ok-ended.was at c.advance-more.ensures.does.goes).0;
      later = let l = before.later in let m = c.advance-more.ensures.later in omega (arith, l, m);
    }

pub returns : goal.returns
returns g c =
    let before = c.loop-done.invariant in
    let end = c.loop-done-test.false in
    record {
      does = went-all before.went c.args.count before.within (omega (arith, end));
      tree = before.went.served;
      later = before.later;
    }
