use Rattle.std.proofs.Common.{ap, slice_set}
use Rattle.proc.proofs.Waiting.{sound-freed}
use Rattle.proc.proofs.table.Table.reap.Goals as goal

pub invariant_of-self-2 : goal.invariant_of-self-2
invariant_of-self-2 c =
    let items = c.self.inside.places.items in
    let at = c.in_ok-at.at in
    sound-freed c.self.invariant at (ap (slice_set items at) c.take.ensures.after)
