use Rattle.asmtext.proofs.Common.{◌≡◌, ◌++◌, drop, map, option_map, symbol_of}
use Rattle.unixmodel.specs.Operands as the
use Rattle.asmtext.proofs.operands.characters.Given as goal

abbrev pub invariant-loop-symbol : goal.invariant-loop-symbol
invariant-loop-symbol l =
    the.characters (map symbol_of l.part)
    ≡ option_map (λ rest. l.text.items ++ rest) (the.characters (map symbol_of (drop l.symbol-index l.part)))
