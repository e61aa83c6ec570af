use Rattle.std.proofs.Common.{refl}
use Rattle.proc.proofs.Waiting.{sound-put}
use Rattle.proc.proofs.table.Table.process_mut.Goals as goal

pub invariant_of-self-lent : goal.invariant_of-self-lent
invariant_of-self-lent c =
    let is = c.self.invariant in
    λ lent. (λ w. sound-put is _ _ refl is.pids c.set.ensures, sound-put is _ _ refl is.pids c.set.ensures)
