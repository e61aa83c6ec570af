use Rattle.asmtext.proofs.Common.{◌∙◌, [], ap, get_or, sym, fold_more}
use Rattle.unixmodel.specs.Tokens as the
use Rattle.asmtext.proofs.tokens.symbols_in.Goals as goal

pub loop-c-preserved : goal.loop-c-preserved
loop-c-preserved c =
    c.in_ok-read.ensures
    ∙ ap (λ r. the.read r (get_or c.args.line.now c.loop-c.c-index 0)) c.loop-c.invariant
    ∙ sym (fold_more the.read (the.standing [] the.Mode.Outside) c.args.line.now c.loop-c.c-index 0 c.loop-c-test.true)
