use Rattle.std.proofs.Common.{refl, sym}
use Rattle.explore.proofs.Walking.{computed, computed-on, computed-there}
use Rattle.explore.proofs.along.AlongWalker.compute.Goals as goal

pub invariant_of-self-2 : goal.invariant_of-self-2
invariant_of-self-2 g c = record {
  is_there = computed-there c.args.self.now.machine c.go_steps.new.machine c.compute-count.new.self
      c.args.self.now.printed.inner.items c.go_steps.new.printed.inner.items c.args.most c.compute-count.result
      c.in_ok-stopped.stopped (sym c.if-is_some.ensures) c.in_ok-stopped.ensures c.compute-count.ensures.computes
      c.args.self.now.first.now c.take-last.result c.in_ok-self.field-0 c.compute-count.ensures.same
      (rw c.take-last.ensures.value c.args.self.now.is_there) c.in_ok-self.ensures;
  is_tidy = c.args.self.now.is_tidy;
}

pub returns : goal.returns
returns g c = record {
  computes = computed c.args.self.now.machine c.go_steps.new.machine c.compute-count.new.self
      c.args.self.now.printed.inner.items c.go_steps.new.printed.inner.items c.args.most c.compute-count.result
      c.in_ok-stopped.stopped (sym c.if-is_some.ensures) c.in_ok-stopped.ensures c.compute-count.ensures.computes;
  reached = computed-on c.args.self.now.machine c.go_steps.new.machine c.compute-count.new.self
      c.args.self.now.printed.inner.items c.go_steps.new.printed.inner.items c.args.most c.compute-count.result
      c.in_ok-stopped.stopped (sym c.if-is_some.ensures) c.in_ok-stopped.ensures c.compute-count.ensures.computes;
  start = refl;
}
