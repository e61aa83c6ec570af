use Rattle.orders.proofs.Opening.{counted-set}
use Rattle.orders.proofs.told.count_run.Goals as goal

pub returns : goal.returns
returns c = counted-set c.args.told.now.items c.args.number c.index_mut-outcome.result.now c.in-Some.runs c.requires
    c.index_mut-outcome.ensures.value c.in-Some.ensures.1
