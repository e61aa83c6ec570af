use Rattle.calls.proofs.Common.{err_from_is_err_and, has-current, refl, rules, runs-now, sym, ◌∙◌}
use Rattle.calls.proofs.Acts.{runs-of}
use Rattle.calls.proofs.Takes.{does-err, does-made, made-quiet, next-executes, next-turns}
use Rattle.calls.proofs.events.step.Goals.{in-None+in_ok-take_turn-in-None, in-Some+in_ok-instruct-in-Some}
use Rattle.calls.proofs.events.step.Goals as goal

pub instruct-requires : goal.instruct-requires
instruct-requires g c =
    let s = c.is_sound.ensures in
    runs-now (runs-of (sym c.in-Some.ensures) c.requires.up s.sound s.zero s.aligned)

pub returns-in_err-instruct-in-Some : goal.returns-in_err-instruct-in-Some
returns-in_err-instruct-in-Some g c =
    let e = err_from_is_err_and c.from_residual.result c.from_residual.ensures.1 in
    let active = has-current (sym c.in-Some.ensures) in
    let same = next-executes c.args.kernel.now _ c.is_sound.ensures.sound active in
    record {
      does = rw (e.1, e.2) (does-err _ _ _ _ _ _ _ same c.in_err-instruct-in-Some.ensures.gives);
      tree = rw (e.1, e.2) c.in_err-instruct-in-Some.ensures.tree;
      later = search rules;
    }

pub returns-clause-does : goal.returns-clause-does
returns-clause-does g c =
    let s = c.is_sound.ensures in
    rw c.goes.ensures (does-made _ _ _ _ _ _ refl (elim c.match-active.branch [
      | in-Some+in_ok-instruct-in-Some w ↦
          rw (
            w.kernel-is,
            w.console-is,
            next-executes c.args.kernel.now _ s.sound (has-current (sym c.active.ensures ∙ w.in-Some.is)),
          )
          w.in_ok-instruct-in-Some.ensures.gives
      | in-None+in_ok-take_turn-in-None w ↦
          rw (w.kernel-is, w.console-is, next-turns c.args.kernel.now s.sound (sym c.active.ensures ∙ w.in-None.is))
          (made-quiet _ _ _ w.in_ok-take_turn-in-None.ensures.gives)
    ]))
