use Rattle.symbols.proofs.nearest.Ordered.below.Goals as goal

pub last_below-requires : goal.last_below-requires
last_below-requires c = rw c.deref.ensures.value c.args.self.now.rising

pub returns : goal.returns
returns c = rw c.deref.ensures.value at c.last_below.ensures
