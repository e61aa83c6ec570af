use Rattle.kernel.specs.Kernel.{state_of}
use Rattle.likeness.proofs.Growing.{OpensFit, SoFit}
use Rattle.likeness.specs.Pairing.{pairs_of}
use Rattle.likeness.proofs.opened.fit_opens.Given as goal

abbrev pub invariant-loop-id : goal.invariant-loop-id
invariant-loop-id g l = SoFit (OpensFit (pairs_of l.files) (state_of l.one).opens (state_of l.other).opens)
    l.fn.pipes l.pipes l.id
