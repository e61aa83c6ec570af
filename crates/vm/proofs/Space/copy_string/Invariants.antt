use Rattle.vm.proofs.Common.{Load, reach, pages_of}
use Rattle.vm.proofs.ReachLemmas.{Strings}
use Rattle.vm.proofs.Space.copy_string.Given as goal

abbrev pub invariant-loop-i : goal.invariant-loop-i
invariant-loop-i l = Strings (reach Load (pages_of l.ram l.self) l.address) l.buffer l.i
