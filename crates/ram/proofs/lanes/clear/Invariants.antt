use Rattle.std.proofs.Common.{replicate, ℕ}
use Rattle.ram.proofs.MemoryLemmas.{IsWritten}
use Rattle.ram.proofs.lanes.clear.Given as goal

abbrev pub invariant-loop-part : goal.invariant-loop-part
invariant-loop-part l = IsWritten l.part l.frame (replicate {A = ℕ} 4096 0)
