use Rattle.std.proofs.Common.{rules}
use Rattle.asm.proofs.LabelLemmas.{noted}
use Rattle.asm.proofs.labels.note.Goals as goal

pub returns-in_ok-insert : goal.returns-in_ok-insert
returns-in_ok-insert c =
    rw c.in-Some.is (noted c.args.labels.now c.insert.new.self c.in-Some.label.now c.args.index
    c.in_ok-insert.ensures.updates (search rules))
