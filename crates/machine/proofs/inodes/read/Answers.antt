use Rattle.kernel.proofs.Steps.{reads-as}
use Rattle.machine.proofs.Steps.{read-shown}
use Rattle.machine.proofs.inodes.read.Goals as goal

pub returns : goal.returns
returns g c = reads-as _ _ (λ x told. read-shown _ _ _ _ _ told.0 told.1) _ c.read_any.ensures
