use Rattle.digests.proofs.Numbers.{timeless-done}
use Rattle.kernel.specs.Kernel.{state_of}
use Rattle.digests.proofs.whole.timeless_but_files.Goals as goal

pub returns : goal.returns
returns g c = timeless-done (state_of c.args.kernel.now) c.ticks.ensures c.digest_by-digest.ensures
    c.mix_holders.ensures
