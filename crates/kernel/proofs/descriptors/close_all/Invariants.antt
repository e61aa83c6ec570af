use Rattle.kernel.proofs.Leaving.{IsClosing}
use Rattle.kernel.proofs.descriptors.close_all.Given as goal

abbrev pub invariant-loop-descriptor : goal.invariant-loop-descriptor
invariant-loop-descriptor g l =
    IsClosing l.fn.files l.fn.spaces l.fn.descriptors l.files l.spaces l.gone.items l.descriptor-index
