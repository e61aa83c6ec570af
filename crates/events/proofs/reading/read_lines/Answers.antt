use Rattle.events.proofs.Acting.{next-line}
use Rattle.events.proofs.reading.read_lines.Goals as goal

pub loop-index-preserved : goal.loop-index-preserved
loop-index-preserved c =
    next-line (λ line. line.now) c.args.lines.now c.loop-index.index _ c.loop-index.draft.acts.items
    c.read.new.self.acts.items c.loop-index-test.true c.loop-index.invariant c.in_default.ensures
