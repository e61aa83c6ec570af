use Rattle.vm.proofs.TrapLemmas.{Loads}
use Rattle.vm.proofs.Space.load_regs.Given as goal

abbrev pub invariant-loop-register : goal.invariant-loop-register
invariant-loop-register l = Loads l.ram l.self l.registers l.register
