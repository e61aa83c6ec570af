use Rattle.explore.proofs.Walking.{goes-by}
use Rattle.orders.specs.Paths.{steps}
use Rattle.unixmodel.specs.Failures.{Rises}
use Rattle.explore.proofs.along.go_steps.Goals as goal

pub returns : goal.returns
returns g c = rw c.status_of.ensures
    (goes-by (steps c.args.count) c.args.machine.now c.steps-done.new.self c.args.printed.now.inner.items
    c.steps-done.new.console.inner.items (Rises c.args.printed.now.failed c.steps-done.new.console.failed)
    c.steps-done.result c.steps-done.ensures.gives)
