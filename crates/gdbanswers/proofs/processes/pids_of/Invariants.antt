use Rattle.std.proofs.Common.{◌-◌, ◌≡◌, ◌≤◌}
use Rattle.gdbanswers.specs.Alive.{held}
use Rattle.waits.specs.Pids.{by_pid}
use Rattle.gdbanswers.proofs.processes.pids_of.Given as goal

-- those up to the last process that was looked at
abbrev pub invariant-loop-pid : goal.invariant-loop-pid
invariant-loop-pid l = record {
  within : l.last ≤ 4294967295;
  found : l.pids.items ≡ by_pid (held l.machine.state l.points.released.items) l.last;
}

abbrev pub decreases-loop-pid : goal.decreases-loop-pid
decreases-loop-pid l = 4294967295 - l.last
