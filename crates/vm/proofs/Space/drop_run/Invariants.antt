use Rattle.vm.proofs.Common.{Some, ◌-◌}
use Rattle.vm.specs.Dense.{IsTableFor}
use Rattle.vm.specs.Owned.{DropsPages}
use Rattle.vm.proofs.Space.drop_run.Given as goal

abbrev pub invariant-loop-i : goal.invariant-loop-i
invariant-loop-i l = record {
  drops : DropsPages l.initial.memory l.memory l.self l.from (l.from - l.i);
  low : IsTableFor l.memory.ram l.self.root.0 (l.from - 1 - l.i) (Some l.low);
}
