use Rattle.asmtext.proofs.Common.{rules, symbol_of}
use Rattle.asmtext.proofs.LoopLemmas.{characters_more}
use Rattle.asmtext.proofs.operands.characters.Goals as goal

pub loop-symbol-preserved : goal.loop-symbol-preserved
loop-symbol-preserved c =
    characters_more symbol_of c.args.part.now c.loop-symbol.symbol-index c.symbol-item.result c.in-Plain.c _
    c.loop-symbol.text.items _ c.loop-symbol.invariant c.in_ok-push-in-Plain.ensures.items c.loop-symbol-test.true
    c.symbol-item.is (search rules)
