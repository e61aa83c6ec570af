use Rattle.kernel.proofs.Common.{List, Option, ap, ◌∙◌, list_any, kernel_of, Process, holds}
use Rattle.kernel.proofs.Readies.{asleep-state}
use Rattle.kernel.proofs.kernel.Kernel.is_anyone_asleep.Goals as goal
use Rattle.kernel.specs.Idle.{is_sleeping_mode}

pub returns : goal.returns
returns g c =
    rw (← c.self.view_is)
    (c.any_sleeping.ensures
    ∙ ap (λ (places : List (Option Process)). list_any (holds (λ (p : Process). is_sleeping_mode p.mode)) places)
    c.places.ensures.places
    ∙ asleep-state (kernel_of c.self.inside))
