use Rattle.calls.proofs.Common.{Appends-nil, arith, err_from_is_err_and}
use Rattle.calls.proofs.Sends.{prints-all, prints-front, prints-more, prints-within, rest-fits, rest-readable}
use Rattle.calls.proofs.transfer_calls.print.Goals as goal

pub loop-done-init : goal.loop-done-init
loop-done-init g c = record { within = omega arith; printed = Appends-nil _; later = omega arith }

pub overflow_add-address : goal.overflow_add-address
overflow_add-address g c =
    let fits = rest-fits _ c.args.address c.args.count c.loop-done.done c.pages_are_whole.ensures.sized
    c.requires.readable c.loop-done-test.true c.pages_are_whole.ensures.few in omega (arith, fits)

pub piece-piece-requires-clause-readable : goal.piece-piece-requires-clause-readable
piece-piece-requires-clause-readable g c =
    let less = c.loop-done-test.true in
    let left = rest-readable _ c.args.address c.args.count c.loop-done.done c.pages_are_whole.ensures.sized
    c.requires.readable less in omega (arith, less, left)

pub returns-in_err-put-clause-err : goal.returns-in_err-put-clause-err
returns-in_err-put-clause-err g c =
    let p = c.piece-piece.ensures in
    let e = err_from_is_err_and c.from_residual.result c.from_residual.ensures.1 in
    rw e.1 (prints-front _ c.args.address c.args.count c.loop-done.done c.pages_are_whole.ensures.sized
    c.requires.readable c.loop-done-test.true c.piece-piece.result.now p.most p.piece _ _ _
    c.loop-done.invariant.printed c.in_err-put.ensures.err)

pub loop-done-preserved : goal.loop-done-preserved
loop-done-preserved g c =
    let p = c.piece-piece.ensures in
    record {
      within = prints-within _ c.args.address c.args.count c.loop-done.done c.pages_are_whole.ensures.sized
          c.requires.readable c.loop-done-test.true c.piece-piece.result.now p.most p.piece;
      printed = prints-more _ c.args.address c.args.count c.loop-done.done c.pages_are_whole.ensures.sized
          c.requires.readable c.loop-done-test.true c.piece-piece.result.now p.most p.piece _ _ _
          c.loop-done.invariant.printed c.in_ok-put.ensures.ok;
      later = let l = c.loop-done.invariant.later in let m = c.put.ensures.later in omega (arith, l, m);
    }

pub returns-clause-ok : goal.returns-clause-ok
returns-clause-ok g c = prints-all _ c.args.address c.args.count c.loop-done.done c.requires.readable
    c.loop-done.invariant.within c.loop-done-test.false _ _ c.loop-done.invariant.printed
