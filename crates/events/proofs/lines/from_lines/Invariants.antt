use Rattle.std.proofs.Common.{map, take}
use Rattle.events.specs.Lines.{AreSaid}
use Rattle.events.proofs.lines.from_lines.Given as goal

abbrev pub invariant-loop-index : goal.invariant-loop-index
invariant-loop-index g l = AreSaid g.L.FromLine.says (take l.index (map (λ line. line.now) l.lines)) l.said.items
