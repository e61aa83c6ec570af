use Rattle.explore.proofs.Looking.{runs}
use Rattle.explore.proofs.along.AlongWalker.is_running.Goals as goal

pub returns : goal.returns
returns g c = rw (c.is_some.ensures, c.running.ensures) (runs c.args.self.now.machine.state)
