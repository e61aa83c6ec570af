use Rattle.explore.proofs.Walking.{goes-one}
use Rattle.unixmodel.specs.Failures.{Rises}
use Rattle.explore.proofs.along.go_interrupt.Goals as goal

pub returns : goal.returns
returns g c = rw (c.status_of.ensures, ← c.event.ensures)
    (goes-one c.event.result c.args.machine.now c.step-done.new.self c.args.printed.now.inner.items
    c.step-done.new.console.inner.items (Rises c.args.printed.now.failed c.step-done.new.console.failed)
    c.step-done.result c.step-done.ensures.gives)
