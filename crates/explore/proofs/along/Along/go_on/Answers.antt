use Rattle.explore.proofs.Walking.{goes-further}
use Rattle.explore.proofs.along.Along.go_on.Goals as goal

pub returns-in-Some-clause-goes : goal.returns-in-Some-clause-goes
returns-in-Some-clause-goes g c = goes-further c.args.last.now c.args.path.now c.in-Some.more
    c.args.self.now.first.now c.args.self.now.machine c.go_steps.new.machine c.args.self.now.printed.inner.items
    c.go_steps.new.printed.inner.items c.go_steps.result c.requires.last c.in-Some.ensures c.go_steps.ensures
