use Rattle.std.proofs.Common.{arith, None, replicate, sym}
use Rattle.timeline.proofs.GoingOn.{gave}
use Rattle.unixmodel.specs.Failures.{Rises}
use Rattle.unixmodel.specs.declared.event.Event.TheVariants.{Step}
use Rattle.timeline.proofs.giving.give_steps.Goals as goal

pub returns : goal.returns
returns c =
    let g = gave _ _ (replicate c.args.count Step) None None (Rises 0 0) c.steps-done.result c.requires
    (sym c.device-disk.ensures.failures) (λ r. omega arith) c.steps-done.ensures.gives in
    record { state = g.state; sound = g.sound }
