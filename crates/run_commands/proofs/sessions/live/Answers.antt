use Rattle.run_commands.proofs.Sitting.{lives-on}
use Rattle.run_commands.proofs.sessions.live.Goals as goal

pub returns : goal.returns
returns g c =
    lives-on c.in_ok-image.ensures.front c.in_ok-machine.ensures.booted c.quantum_of.ensures c.is_some.ensures
    c.sit-end.ensures
