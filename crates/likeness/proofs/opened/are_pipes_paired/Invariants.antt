use Rattle.std.proofs.Common.{None, ℕ, ◌<◌, ◌≡◌}
use Rattle.kernel.specs.Kernel.{state_of}
use Rattle.unixmodel.specs.Files.{slot}
use Rattle.likeness.proofs.opened.are_pipes_paired.Given as goal

abbrev pub invariant-loop-q : goal.invariant-loop-q
invariant-loop-q g l = (k : ℕ) → k < l.q → slot l.pipes.back k ≡ None → slot (state_of l.other).pipes k ≡ None
