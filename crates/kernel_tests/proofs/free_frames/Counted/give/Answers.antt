use Rattle.std.proofs.Common.{arith}
use Rattle.frames.proofs.HolderLemmas.{held-inside}
use Rattle.kernel_tests.proofs.free_frames.Counted.give.Goals as goal

pub give-requires-clause-held : goal.give-requires-clause-held
give-requires-clause-held g c = (held-inside _ _ 0 c.self.invariant (omega (arith, c.holders-held.ensures))).1
