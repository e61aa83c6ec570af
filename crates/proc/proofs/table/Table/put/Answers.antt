use Rattle.std.proofs.Common.{refl}
use Rattle.proc.proofs.Waiting.{sound-put}
use Rattle.proc.proofs.table.Table.put.Goals as goal

pub invariant_of-self : goal.invariant_of-self
invariant_of-self c = sound-put c.self.invariant _ _ refl c.self.invariant.pids c.set.ensures
