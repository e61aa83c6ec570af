use Rattle.std.proofs.Common.{◌-◌, ◌≡◌, ◌≤◌}
use Rattle.waits.specs.Pids.{by_pid}
use Rattle.waits.specs.Waits.{waiter_of}
use Rattle.waits.proofs.listing.who_waits.Given as goal

-- those that wait up to the last process that was looked at were found
abbrev pub invariant-loop-pid : goal.invariant-loop-pid
invariant-loop-pid g l = record {
  within : l.last ≤ 4294967295;
  found : l.list.items ≡ by_pid (waiter_of l.machine.state) l.last;
}

abbrev pub decreases-loop-pid : goal.decreases-loop-pid
decreases-loop-pid g l = 4294967295 - l.last
