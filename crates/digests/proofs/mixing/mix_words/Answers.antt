use Rattle.digests.proofs.Common.{ap, mix, word_mixed, ◌∙◌}
use Rattle.digests.proofs.Steps.{each-next, each-none}
use Rattle.digests.proofs.mixing.mix_words.Goals as goal

pub loop-k-init : goal.loop-k-init
loop-k-init c = each-none (word_mixed c.args.bytes.now) c.args.digest

pub loop-k-preserved : goal.loop-k-preserved
loop-k-preserved c =
    each-next (word_mixed c.args.bytes.now) c.loop-k.k c.args.digest c.loop-k.digest c.mix-digest.result
    c.loop-k.invariant (c.mix-digest.ensures ∙ ap (mix c.loop-k.digest) c.word.ensures)
