use Rattle.ram.proofs.MemoryLemmas.{IsWritten}
use Rattle.ram.proofs.lanes.copy.Given as goal

abbrev pub invariant-loop-part : goal.invariant-loop-part
invariant-loop-part l = IsWritten l.part l.to (l.from)
