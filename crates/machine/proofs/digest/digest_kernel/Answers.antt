use Rattle.kernel.proofs.Steps.{reads-as}
use Rattle.machine.proofs.Steps.{digest-told}
use Rattle.machine.proofs.digest.digest_kernel.Goals as goal

pub returns : goal.returns
returns g c = reads-as _ _ (λ x told. digest-told c.args.kernel.now c.digest_but_files-but_files.ensures told) _
    c.mix_files.ensures
