use Rattle.digests.proofs.Common.{ap, arith, length-append, mix, ◌∙◌}
use Rattle.digests.proofs.Steps.{byte-next, console-done, typed}
use Rattle.digests.proofs.opened.mix_console.Goals as goal

pub loop-at-preserved : goal.loop-at-preserved
loop-at-preserved c =
    byte-next (typed c.args.console.now) c.loop-at.at _ _ _
    (omega (
      arith,
      length-append c.args.console.now.committed c.args.console.now.edited,
      c.loop-at-test.true,
      c.committed_len-committed.ensures,
      c.edited_len-edited.ensures,
    ))
    c.loop-at.invariant (c.mix-digest.ensures ∙ ap (mix c.loop-at.digest) (c.from.ensures ∙ c.byte.ensures))

pub returns : goal.returns
returns c =
    console-done c.args.console.now c.args.digest _ _ _ _ c.committed_len-committed.ensures c.edited_len-edited.ensures
    c.loop-at.invariant
    (omega (arith, c.loop-at-test.false, c.loop-at.auto.at-end))
