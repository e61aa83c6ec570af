use Rattle.kernel.specs.Kernel.{state_of}
use Rattle.likeness.proofs.Growing.{SlotsFit, SoFit}
use Rattle.renumbering.specs.Pairs.{ProcessesFit}
use Rattle.schedules.specs.Alike.{timeless}
use Rattle.likeness.proofs.processes.fit_places.Given as goal

abbrev pub invariant-loop-at : goal.invariant-loop-at
invariant-loop-at g l = SoFit
    (SlotsFit ProcessesFit (timeless (state_of l.one)).places (timeless (state_of l.other)).places) l.fn.files l.files
    l.at
