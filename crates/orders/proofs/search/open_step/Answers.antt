use Rattle.std.proofs.Common.{ap, List, ◌++◌, ◌∙◌}
use Rattle.orders.proofs.Opening.{step-opened}
use Rattle.orders.proofs.search.open_step.Goals as goal
use Rattle.orders.specs.Paths.{steps}
use Rattle.unixmodel.specs.declared.event.Event.{Event}

pub returns : goal.returns
returns c = λ keys s. rw c.in_ok-push_front.ensures.items
    (step-opened keys s c.args.todo.now.items c.args.path.now c.in_ok-further.further
    (c.in_ok-further.ensures.events ∙ ap (λ (es : List Event). es ++ steps 1) c.in_ok-copy.ensures.events)
    (c.in_ok-further.ensures.busy ∙ c.in_ok-copy.ensures.busy))
