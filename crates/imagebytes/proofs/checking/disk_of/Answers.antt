use Rattle.std.proofs.Common.{arith, refl}
use Rattle.imagebytes.proofs.Disks.{no-files}
use Rattle.imagebytes.proofs.checking.disk_of.Goals as goal

pub returns-in-Err-clause-denied : goal.returns-in-Err-clause-denied
returns-in-Err-clause-denied c = λ own. no-files c.args.image.now
    (λ even. c.in-Err.ensures.length.0 refl (omega (arith, even, c.in-Ok.ensures.len)))
