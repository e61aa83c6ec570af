use Rattle.std.proofs.Common.{sym, ◌∙◌}
use Rattle.digests.proofs.Steps.{holder-done, no-holder}
use Rattle.digests.proofs.named.mix_holder.Goals as goal

pub returns-in-None : goal.returns-in-None
returns-in-None g c = no-holder c.args.kernel.now c.args.at c.args.digest (sym c.in-None.is ∙ c.whole.ensures.process)

pub returns-in-Some : goal.returns-in-Some
returns-in-Some g c = holder-done c.args.kernel.now c.args.at c.args.digest c.in-Some.process c.mix_names.result
    (sym c.in-Some.is ∙ c.whole.ensures.process) c.mix_names.ensures
