use Rattle.std.proofs.Common.{ap, arith, length, rules, subst, sym, take, ◌++◌, ◌∙◌, ◌≡◌}
use Rattle.waits.proofs.Waiting.{all-first, found-all, found-first, found-more}
use Rattle.waits.specs.Pids.{by_pid, listed}
use Rattle.waits.specs.Waits.{waiters}
use Rattle.waits.proofs.listing.who_waits.Goals as goal

pub loop-pid-init : goal.loop-pid-init
unfolding by_pid
loop-pid-init g c = record { within = omega arith; found = search rules }

pub returns-then-not-put-clause-first : goal.returns-then-not-put-clause-first
returns-then-not-put-clause-first g c =
    let state = c.args.machine.now.state in
    let kept : c.put.new.list.items ≡ c.loop-pid.list.items = c.put.ensures.kept (search rules) in
    subst (λ xs. xs ≡ take (length xs) (waiters state)) (sym kept)
    (found-first state c.loop-pid.last _ c.loop-pid.invariant.found c.loop-pid.invariant.within)

pub loop-pid-preserved : goal.loop-pid-preserved
loop-pid-preserved g c = record {
  within = first_of (search rules, omega arith);
  found = c.put.ensures.put (search rules)
      ∙ (ap (λ one. c.loop-pid.list.items ++ listed one) c.waiter_of.ensures
      ∙ found-more c.args.machine.now.state c.loop-pid.last _ c.loop-pid.invariant.found _ c.in-Some.ensures);
}

pub returns : goal.returns
returns g c =
    let all = found-all c.args.machine.now.state c.loop-pid.last _ c.loop-pid.invariant.found
    c.loop-pid.invariant.within
    c.in_default.ensures in
    record { first = all-first _ _ all; all = λ h. all }
