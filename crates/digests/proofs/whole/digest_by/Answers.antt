use Rattle.std.proofs.Common.{◌∙◌}
use Rattle.digests.proofs.Steps.{processes-by}
use Rattle.kernel.specs.Kernel.{state_of}
use Rattle.digests.proofs.whole.digest_by.Goals as goal

pub returns : goal.returns
returns g c = (rw (c.mix_console-digest.ensures, c.mix_front.ensures, c.console.ensures) at c.mix_places.ensures)
    ∙ processes-by c.args.clock (state_of c.args.kernel.now) _
