use Rattle.vm.proofs.Common.{Some, ◌<◌}
use Rattle.vm.specs.Dense.{IsTableFor}
use Rattle.vm.specs.Owned.{AddsPages}
use Rattle.vm.proofs.Space.add_run.Given as goal

abbrev pub invariant-loop-page : goal.invariant-loop-page
invariant-loop-page l = record {
  adds : AddsPages l.initial.memory l.memory l.self l.from l.page l.marks.0;
  low : l.page < l.to → IsTableFor l.memory.ram l.self.root.0 l.page (Some l.low);
}
