use Rattle.std.proofs.Common.{◌-◌, ◌≡◌, ◌≤◌}
use Rattle.jsonrows.specs.Enders.{ender}
use Rattle.waits.specs.Pids.{by_pid}
use Rattle.jsonrows.proofs.waiting.enders.Given as goal

-- those up to the last process that was looked at
abbrev pub invariant-loop-pid : goal.invariant-loop-pid
invariant-loop-pid g l = record {
  within : l.last ≤ 4294967295;
  found : l.pids.items ≡ by_pid (ender l.machine.state l.waiter l.wait) l.last;
}

abbrev pub decreases-loop-pid : goal.decreases-loop-pid
decreases-loop-pid g l = 4294967295 - l.last
