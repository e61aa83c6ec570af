use Rattle.explore.proofs.Looking.{sleeps-same}
use Rattle.explore.proofs.along.AlongWalker.is_anyone_asleep.Goals as goal

pub returns : goal.returns
returns g c = rw c.is_anyone_asleep.ensures (sleeps-same c.args.self.now.machine.state)
