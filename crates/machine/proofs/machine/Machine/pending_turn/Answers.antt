use Rattle.machine.proofs.Common.{After, ap, sym, ◌∙◌}
use Rattle.calls.proofs.Takes.{next-ticks}
use Rattle.kernel.specs.Idle.{picked_pid}
use Rattle.machine.proofs.machine.Machine.pending_turn.Goals as goal

pub returns : goal.returns
returns g c =
    let s = c.is_sound.ensures in
    rw (← c.self.view_is)
    (c.pending_turn.ensures
    ∙ ap (λ (a : After). picked_pid a.state) (sym (next-ticks c.self.inside.kernel s.sound s.zero s.aligned)))
