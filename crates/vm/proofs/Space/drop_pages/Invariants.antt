use Rattle.vm.proofs.Common.{◌-◌, ◌≤◌}
use Rattle.vm.specs.Owned.{DropsPages}
use Rattle.vm.proofs.Space.drop_pages.Given as goal

abbrev pub invariant-loop-left : goal.invariant-loop-left
invariant-loop-left l = record {
  drops : DropsPages l.initial.memory l.memory l.self l.from l.left;
  from : l.left ≤ l.from;
  to : l.to ≤ l.left;
}

abbrev pub decreases-loop-left : goal.decreases-loop-left
decreases-loop-left l = l.left - l.to
