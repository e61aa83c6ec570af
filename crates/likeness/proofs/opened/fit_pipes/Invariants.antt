use Rattle.std.proofs.Common.{ℕ, ◌<◌}
use Rattle.kernel.specs.Kernel.{state_of}
use Rattle.likeness.specs.Pairing.{FitsAt, IsSame, pairs_of}
use Rattle.likeness.proofs.opened.fit_pipes.Given as goal

abbrev pub invariant-loop-q : goal.invariant-loop-q
invariant-loop-q g l = (k : ℕ) → k < l.q
    → FitsAt (pairs_of l.pipes) IsSame (state_of l.one).pipes (state_of l.other).pipes k
