use Rattle.std.proofs.Common.{sym}
use Rattle.explore.proofs.Looking.{picked-again}
use Rattle.explore.proofs.Walking.{tidy-there}
use Rattle.explore.proofs.along.AlongWalker.gives_turn_back.Goals as goal

pub returns : goal.returns
returns g c = λ yes. picked-again c.args.self.now.machine.state
    (tidy-there c.args.self.now.first.now c.args.self.now.machine c.args.self.now.printed.inner.items
    c.args.self.now.path c.if-is_none.ensures c.args.self.now.is_there c.args.self.now.is_tidy
    c.tables_stay_tidy.ensures.stays)
    (sym c.if-is_anyone_asleep.ensures) (c.is_picked_again.ensures yes)
