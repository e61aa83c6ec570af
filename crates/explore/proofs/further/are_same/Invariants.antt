use Rattle.std.proofs.Common.{length, take, ◌≡◌}
use Rattle.explore.proofs.further.are_same.Given as goal

abbrev pub invariant-loop-index : goal.invariant-loop-index
invariant-loop-index l = (length l.pieces ≡ length l.others) × (take l.index l.pieces ≡ take l.index l.others)
