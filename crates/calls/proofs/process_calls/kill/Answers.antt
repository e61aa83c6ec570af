use Rattle.calls.proofs.Common.{ap, here-of, Some, sym, ◌∙◌}
use Rattle.calls.proofs.Processes.{kills-none, kills-other, kills-self}
use Rattle.calls.proofs.process_calls.kill.Goals as goal

pub returns-in_default : goal.returns-in_default
returns-in_default g c = kills-none (here-of c.requires) (rw c.argument.ensures at (sym c.in_default.ensures))

pub returns-then-place-current : goal.returns-then-place-current
returns-then-place-current g c =
    let is = ap Some (c.if-place-current.true ∙ c.current.ensures) in
    kills-self (here-of c.requires) (rw c.argument.ensures at (sym c.in-Some.ensures ∙ is))

pub returns : goal.returns
returns g c = kills-other (here-of c.requires) (rw c.argument.ensures at (sym c.in-Some.ensures)) c.mark.ensures
    c.is_sound.ensures.sound
