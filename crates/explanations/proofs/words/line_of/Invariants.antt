use Rattle.std.proofs.Common.{◌≡◌, ◌-◌, Some}
use denote.Shadow.{shadow}
use denote.Text.{Utf8}
use Rattle.explanations.specs.Words.{line_after, line_of}
use Rattle.explanations.proofs.words.line_of.Given as goal

abbrev pub invariant-loop-line : goal.invariant-loop-line
invariant-loop-line l = shadow (Utf8 l.rest) × (line_after (l.before - l._line) (Some l.rest) ≡ line_of l.number l.text)
