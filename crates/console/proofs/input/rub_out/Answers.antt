use Rattle.console.proofs.Common.{◌-◌, arith, suc, Appends-nil, Appends-trans, rub_outs, append_assoc, sym, ◌∙◌}
use Rattle.console.proofs.Common.{rub_out}
use Rattle.std.proofs.lemmas.Result.{err_from_is_err_and}
use Rattle.console.proofs.Lines.{begins_more, rub_outs-more, rub_outs-split}
use Rattle.console.proofs.input.rub_out.Goals as goal

pub loop-done-init : goal.loop-done-init
unfolding rub_outs
loop-done-init g c = record { printed = Appends-nil _; later = omega arith }

pub returns-in_err-put-clause-err : goal.returns-in_err-put-clause-err
returns-in_err-put-clause-err g c =
    let p = err_from_is_err_and c.from_residual.result c.from_residual.ensures.1 in
    rw (p.1) (begins_more _ _ _ _ _ (rub_outs (c.args.count - suc c.loop-done._done)) _ c.loop-done.invariant.printed
    c.in_err-put.ensures.err
    (append_assoc (rub_outs c.loop-done._done) rub_out _
    ∙ sym (rub_outs-split c.loop-done._done (c.args.count - suc c.loop-done._done) c.args.count (omega arith))))

pub loop-done-preserved : goal.loop-done-preserved
loop-done-preserved g c = record {
  printed = rw rub_outs-more (Appends-trans _ _ _ _ _ c.loop-done.invariant.printed c.in_ok-put.ensures.ok);
  later = omega arith;
}
