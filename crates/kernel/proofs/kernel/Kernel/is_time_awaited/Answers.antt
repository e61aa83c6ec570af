use Rattle.kernel.proofs.Common.{List, Option, ap, ◌∙◌, list_any, kernel_of, Process, holds}
use Rattle.kernel.proofs.Readies.{awaited-state}
use Rattle.kernel.proofs.kernel.Kernel.is_time_awaited.Goals as goal
use Rattle.kernel.specs.Idle.{sleeps_on_at}

pub returns : goal.returns
returns g c =
    rw (← c.self.view_is)
    (c.any_sleeping_on.ensures
    ∙ ap (λ (places : List (Option Process)). list_any
    (holds (λ (p : Process). sleeps_on_at c.self.inside.ticks p.mode)) places)
    c.places.ensures.places
    ∙ awaited-state (kernel_of c.self.inside))
