use Rattle.asm.proofs.Common.{◌≡◌, ◌≤◌, ◌*◌, ◌+◌, ◌++◌, ◌^◌, drop, map, placed_seen, line_seen}
use Rattle.unixmodel.specs.Assembly as the
use Rattle.asm.proofs.layout.place.Given as goal

abbrev pub invariant-loop-index : goal.invariant-loop-index
invariant-loop-index l = record {
  placed : map placed_seen l.placed.items
      ++ the.placed_from (l.index + 1) l.address (map line_seen (drop l.index l.lines))
      ≡ the.placed_from 1 0 (map line_seen l.lines);
  small : l.address ≤ l.index * 2 ^ 64;
}
