use Rattle.std.proofs.Common.{sym}
use Rattle.next_fault.proofs.access.word_at.Goals as goal
use Rattle.next_fault.proofs.Cycles.{word-is}

pub returns : goal.returns
returns c =
    rw (c.byte.ensures.value, c.byte-2.ensures.value, c.byte-3.ensures.value, c.byte-4.ensures.value)
    (sym (word-is c.args.at c.args.page.now))
