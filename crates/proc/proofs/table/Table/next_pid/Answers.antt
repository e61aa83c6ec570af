use Rattle.proc.proofs.table.Table.next_pid.Goals as goal

pub returns : goal.returns
returns c = rw (← c.self.view_is, ← c.as_slice.ensures.value) c.least_above.ensures
