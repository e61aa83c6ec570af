use Rattle.std.proofs.Common.{◌≤◌, ◌-◌}
use Rattle.events.specs.Records.{Records}
use Rattle.orders.specs.Paths.{steps}
use Rattle.explore_command.proofs.script_text.put_steps.Given as goal

-- all steps but those left are recorded
abbrev pub invariant-loop-left : goal.invariant-loop-left
invariant-loop-left l = record {
  recorded : Records l.fn.transcript l.transcript (steps (l.count - l.left));
  within : l.left ≤ l.count;
}

abbrev pub decreases-loop-left : goal.decreases-loop-left
decreases-loop-left l = l.left
