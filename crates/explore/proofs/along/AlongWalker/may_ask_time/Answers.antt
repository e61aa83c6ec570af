use Rattle.std.proofs.Common.{sym}
use Rattle.explore.proofs.Looking.{none-asks, others-ask}
use Rattle.explore.proofs.along.AlongWalker.may_ask_time.Goals as goal

pub returns-in_default : goal.returns-in_default
returns-in_default g c = λ no. none-asks c.args.self.now.machine.state (sym c.in_default.ensures)

pub returns-in-Some-inspect : goal.returns-in-Some-inspect
returns-in-Some-inspect g c = λ other. others-ask c.args.self.now.machine.state _ c.in-Some-inspect.seen
    (sym c.in-Some.ensures) (sym c.in-Some-inspect.ensures) (c.may_be_uptime.ensures other)
