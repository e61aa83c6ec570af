use Rattle.asmtext.proofs.Common.{◌≡◌, map, take, line_seen}
use Rattle.unixmodel.specs.Statements as the
use Rattle.asmtext.proofs.line.read_lines.Given as goal

abbrev pub invariant-loop-line : goal.invariant-loop-line
invariant-loop-line l = map line_seen l.lines.items ≡ map (λ line. the.line_of line.now) (take l.line-index l.split)
