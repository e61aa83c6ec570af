use Rattle.std.proofs.Common.{◌≡◌, drop}
use Rattle.explanations.specs.Names.{is_among}
use Rattle.explanations.proofs.guesses.is_among.Given as goal

abbrev pub invariant-loop-name : goal.invariant-loop-name
invariant-loop-name l = is_among l.word l.names ≡ is_among l.word (drop l.name-index l.names)
