use Rattle.std.proofs.Common.{map, take}
use Rattle.events.specs.PlayTexts.{AreActs, bare}
use Rattle.events.proofs.reading.read_lines.Given as goal

abbrev pub invariant-loop-index : goal.invariant-loop-index
invariant-loop-index l = AreActs 1 (take l.index (map (λ line. line.now) l.lines)) (map bare l.draft.acts.items)
