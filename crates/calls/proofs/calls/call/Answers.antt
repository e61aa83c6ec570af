use Rattle.calls.proofs.Common.{current-is, err_from_is_err_and, has-current, Rises, rules, runs-now}
use Rattle.calls.proofs.Acts.{fails-of, makes-of, numbers}
use Rattle.calls.proofs.calls.call.Goals as goal

pub act-requires : goal.act-requires
act-requires g c = runs-now c.begin.ensures.runs

pub settle-requires : goal.settle-requires
settle-requires g c = let comes = c.in_ok-came.ensures.tries.1 in
    record { running = has-current comes.active; up = comes.served.up; can = rw (current-is comes.active) comes.can }

pub returns-in_err-came : goal.returns-in_err-came
returns-in_err-came g c =
    let e = err_from_is_err_and c.from_residual.result c.from_residual.ensures.1 in
    let failed = fails-of c.begin.ensures
    (numbers c.args.kernel.now c.argument.ensures c.low.ensures c.call_of-call.ensures) c.act.new.kernel
    (g.W.Out.contents c.args.console.now) (g.W.Out.contents c.act.new.console)
    (Rises (g.W.Out.failures c.args.console.now) (g.W.Out.failures c.act.new.console)) _
    c.in_err-came.ensures.tries in
    rw (e.1, e.2) (record { gives = failed.0; tree = failed.1; later = search rules })

pub returns-clause-gives : goal.returns-clause-gives
returns-clause-gives g c =
    let tries = rw (current-is c.begin.ensures.runs.active) at c.in_ok-came.ensures.tries in
    makes-of c.begin.ensures (numbers c.args.kernel.now c.argument.ensures c.low.ensures c.call_of-call.ensures)
    c.act.new.kernel _ _ tries.1 tries.2 _ (rw (current-is tries.1.active) at c.in_ok-settle.ensures.gives)
