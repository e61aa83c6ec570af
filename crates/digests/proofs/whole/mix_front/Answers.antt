use Rattle.digests.proofs.Common.{ap, mixed, start, ◌∙◌}
use Rattle.digests.proofs.Steps.{front-state}
use Rattle.digests.proofs.whole.mix_front.Goals as goal

pub returns : goal.returns
returns g c = (rw (c.clock_by.ensures, c.ticks.ensures, c.table.ensures, c.halted.ensures) at c.mix_counts.ensures)
    ∙ ap (mixed start) (front-state c.args.clock c.args.kernel.now)
