use Rattle.std.proofs.Common.{ap, arith, rules, ◌++◌, ◌∙◌}
use Rattle.jsonrows.proofs.Ending.{ender-all, ender-more}
use Rattle.waits.specs.Pids.{by_pid, listed}
use Rattle.jsonrows.proofs.waiting.enders.Goals as goal

pub loop-pid-init : goal.loop-pid-init
unfolding by_pid
loop-pid-init g c = record { within = omega arith; found = c.new-pids.ensures.items }

pub loop-pid-preserved : goal.loop-pid-preserved
loop-pid-preserved g c = record {
  within = first_of (search rules, omega arith);
  found = c.in_ok-push.ensures
      ∙ (ap (λ one. c.loop-pid.pids.items ++ listed one) c.ender.ensures
      ∙ ender-more c.args.machine.now.state c.args.waiter c.args.wait c.loop-pid.last _ c.loop-pid.invariant.found _
      c.in-Some.ensures);
}

pub returns : goal.returns
returns g c = ender-all c.args.machine.now.state c.args.waiter c.args.wait c.loop-pid.last _ c.loop-pid.invariant.found
    c.loop-pid.invariant.within c.in_default.ensures
