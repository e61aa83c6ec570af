use Rattle.vm.proofs.Common.{◌-◌, ◌≤◌}
use Rattle.vm.specs.Owned.{AddsPages}
use Rattle.vm.proofs.Space.add_pages.Given as goal

abbrev pub invariant-loop-page : goal.invariant-loop-page
invariant-loop-page l = record {
  adds : AddsPages l.initial.memory l.memory l.self l.from l.page l.marks.0;
  from : l.from ≤ l.page;
  to : l.page ≤ l.to;
}

abbrev pub decreases-loop-page : goal.decreases-loop-page
decreases-loop-page l = l.to - l.page
