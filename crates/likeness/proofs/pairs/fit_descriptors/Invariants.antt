use Rattle.likeness.proofs.Growing.{SlotsFit, SoFit}
use Rattle.renumbering.specs.Pairs.{IsPair}
use Rattle.likeness.proofs.pairs.fit_descriptors.Given as goal

abbrev pub invariant-loop-fd : goal.invariant-loop-fd
invariant-loop-fd l = SoFit (SlotsFit IsPair l.one l.other) l.fn.files l.files l.fd
