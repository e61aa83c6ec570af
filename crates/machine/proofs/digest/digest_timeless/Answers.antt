use Rattle.kernel.proofs.Steps.{reads-as}
use Rattle.machine.proofs.Steps.{timeless-told}
use Rattle.machine.proofs.digest.digest_timeless.Goals as goal

pub returns : goal.returns
returns g c = reads-as _ _ (λ x told. timeless-told c.args.kernel.now c.timeless_but_files-front.ensures told) _
    c.mix_files.ensures
