use Rattle.asmtext.proofs.Common.{◌∙◌, ap, part_seen}
use Rattle.unixmodel.specs.Tokens as the
use Rattle.asmtext.proofs.LoopLemmas.{seen_more}
use Rattle.asmtext.proofs.parts.all_trimmed.Goals as goal

pub loop-part-preserved : goal.loop-part-preserved
loop-part-preserved c =
    seen_more part_seen (λ part. the.trimmed (part_seen part)) c.loop-part.parts.items _ c.trimmed.result
    c.args.split.now c.loop-part.part-index c.part-item.result c.loop-part.invariant c.in_ok-push.ensures.items
    c.loop-part-test.true (c.trimmed.ensures ∙ ap (λ part. the.trimmed (part_seen part)) c.part-item.is)
