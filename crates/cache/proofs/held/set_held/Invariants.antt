use Rattle.std.proofs.Common.{◌≡◌}
use Rattle.cache.proofs.Flushing.{IsSetFrom}
use Rattle.cache.proofs.held.set_held.Given as goal

abbrev pub invariant-block : goal.invariant-block
invariant-block g l =
    IsSetFrom l.held.entries (g.D.BlockDev.content l.fn.device) (g.D.BlockDev.content l.device) l.n-iterator.iter
    × (g.D.BlockDev.identity l.device ≡ g.D.BlockDev.identity l.fn.device)
    × (g.D.BlockDev.failures l.device ≡ g.D.BlockDev.failures l.fn.device)
