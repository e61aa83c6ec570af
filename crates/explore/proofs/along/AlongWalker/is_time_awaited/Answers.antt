use Rattle.std.proofs.Common.{sym, ◌∙◌}
use Rattle.explore.proofs.Looking.{awaited-same}
use Rattle.explore.proofs.along.AlongWalker.is_time_awaited.Goals as goal

pub returns : goal.returns
returns g c = λ no. sym (awaited-same c.args.self.now.machine.state) ∙ sym c.is_time_awaited.ensures ∙ no
