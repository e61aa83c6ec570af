use Rattle.asm.proofs.Common.{◌≡◌, drop, map, behind, placed_seen}
use Rattle.unixmodel.specs.Assembly as the
use Rattle.asm.proofs.emit.codes.Given as goal

abbrev pub invariant-loop-line : goal.invariant-loop-line
invariant-loop-line l =
    behind l.out.items (the.codes_from (map placed_seen l.placed) (map placed_seen (drop l.line-index l.placed)))
    ≡ the.codes_from (map placed_seen l.placed) (map placed_seen l.placed)
