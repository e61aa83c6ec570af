use Rattle.lines.proofs.Covering.{rises-at}
use Rattle.lines.proofs.ordered.Ordered.row.Goals as goal

pub covering-requires : goal.covering-requires
covering-requires c = rises-at c.args.self.now.rows.items c.args.self.now.sequences.items c.args.address c.args.sequence
    _ c.requires c.args.self.now.rising (rw c.deref.ensures.value at c.rows_of.ensures)
