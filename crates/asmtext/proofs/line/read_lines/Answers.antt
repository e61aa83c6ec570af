use Rattle.asmtext.proofs.Common.{[], line_seen}
use Rattle.unixmodel.specs.Statements as the
use Rattle.asmtext.proofs.LoopLemmas.{seen_more}
use Rattle.asmtext.proofs.line.read_lines.Goals as goal

pub loop-line-preserved : goal.loop-line-preserved
loop-line-preserved c =
    seen_more line_seen (λ line. the.line_of line.now) c.loop-line.lines.items _ c.in_ok-line_of.field-0
    c.args.split.now c.loop-line.line-index (record { ref_ptr = (0, 0); now = [] }) c.loop-line.invariant
    c.in_ok-push.ensures.items c.loop-line-test.true c.in_ok-line_of.ensures
