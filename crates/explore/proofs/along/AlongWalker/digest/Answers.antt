use Rattle.std.proofs.Common.{refl}
use Rattle.explore.proofs.Walking.{same-reached, still-there}
use Rattle.explore.proofs.along.AlongWalker.digest.Goals as goal

pub invariant_of-self-2 : goal.invariant_of-self-2
invariant_of-self-2 g c = record {
  is_there = still-there c.args.self.now.first.now c.args.self.now.machine c.digest_but_ticks.new.self
      c.args.self.now.printed.inner.items c.take-path.result c.in-Ok.ensures.0.state c.in-Ok.ensures.0.still
      (rw c.take-path.ensures.value c.args.self.now.is_there);
  is_tidy = c.args.self.now.is_tidy;
}

pub returns : goal.returns
returns g c = record { reached = same-reached _ _ _ _ c.in-Ok.ensures.0.state refl; start = refl }
