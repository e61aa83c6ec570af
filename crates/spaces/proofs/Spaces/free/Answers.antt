use Rattle.spaces.proofs.Spaces.free.Goals as goal
use Rattle.spaces.proofs.Places.{free-taken}
use Rattle.std.proofs.Common.{arith}

pub returns : goal.returns
returns g c =
    let i = c.self.inside in
    rw (← c.self.view_is) (omega
    (arith, c.free.ensures i.memory.ram, free-taken g.T.Translate.held i c.self.invariant.spaces))
