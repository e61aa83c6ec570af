use Rattle.std.proofs.Common.{◌≡◌, drop, map}
use Rattle.explanations.specs.Meanings.{among, row_of}
use Rattle.explanations.proofs.meanings.among.Given as goal

abbrev pub invariant-loop-text : goal.invariant-loop-text
invariant-loop-text l = among l.place l.line (map row_of l.meanings)
    ≡ among l.place l.line (map row_of (drop l.text-index l.meanings))
