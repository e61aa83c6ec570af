use Rattle.calls.proofs.Common.{ap, Appends-nil, arith, counting, ended, err_from_is_err_and, negsuc, quiet, refl}
use Rattle.calls.proofs.Common.{runner-of, serves-disk, state-but, sym, ◌∙◌}
use Rattle.calls.proofs.Takes.{made-quiet, step-calls, step-faults}
use Rattle.calls.proofs.events.take_trap.Goals as goal

pub returns-then-is_call-clause-gives : goal.returns-then-is_call-clause-gives
returns-then-is_call-clause-gives g c =
    rw (step-calls (runner-of c.is_sound.ensures.sound c.requires.running) c.requires.traps (sym c.if-is_call.ensures))
    c.call.ensures.gives

pub finish-requires : goal.finish-requires
finish-requires g c =
    rw c.current-at.ensures (record { up = c.requires.up; can = rw c.requires.running refl })

pub returns-clause-gives : goal.returns-clause-gives
returns-clause-gives g c =
    let k = c.args.kernel.now in
    let s = c.is_sound.ensures in
    let new = c.finish.new.self in
    let e = step-faults (runner-of s.sound c.requires.running) c.requires.traps c.requires.up s.zero s.aligned
    (sym c.if-is_call.ensures) in
    made-quiet new _ (g.W.Out.contents c.args.console.now)
    (e ∙ ap quiet (sym (state-but (counting (ended k _ (negsuc 0)) new.tree.failures)
    (rw c.current-at.ensures at c.in_ok-finish.ensures.told))))

pub returns-in_err-finish : goal.returns-in_err-finish
returns-in_err-finish g c =
    let e = err_from_is_err_and c.from_residual.result c.from_residual.ensures.1 in
    rw (e.1, e.2) (record { gives = Appends-nil _; tree = serves-disk c.in_err-finish.ensures; later = omega arith })
