use Rattle.std.proofs.Common.{◌≡◌, drop, length, min, None}
use Rattle.explanations.specs.Names.{nearer}
use Rattle.explanations.proofs.guesses.nearest.Given as goal

abbrev pub invariant-loop-name : goal.invariant-loop-name
invariant-loop-name l = nearer l.word l.fewest l.found (drop l.name-index l.names)
    ≡ nearer l.word (min 3 (length l.word)) None l.names
