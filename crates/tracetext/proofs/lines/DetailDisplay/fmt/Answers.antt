use Rattle.std.proofs.Common.{ap, rules, ◌∙◌}
use Rattle.tracetext.specs.Lines.{detail_text}
use Rattle.tracetext.proofs.TextLemmas.{word_is}
use Rattle.tracetext.proofs.lines.DetailDisplay.fmt.Goals as goal

pub returns-in-Word-clause-writes : goal.returns-in-Word-clause-writes
returns-in-Word-clause-writes g c = rw (ap detail_text c.in-Word.is ∙ word_is c.in-Word.word) (search rules)
