use Rattle.vm.proofs.TrapLemmas.{Saves}
use Rattle.vm.proofs.Space.save_regs.Given as goal

abbrev pub invariant-loop-register : goal.invariant-loop-register
invariant-loop-register l = Saves l.fn.ram l.ram l.self l.registers l.pc l.register
