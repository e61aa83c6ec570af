use Rattle.std.proofs.Common.{rules}
use Rattle.asmtext.proofs.PartLemmas.{trimmed-map}
use Rattle.asmtext.proofs.parts.trimmed.Goals as goal

pub returns : goal.returns
returns c = rw (trimmed-map c.args.part.now) (search rules)
