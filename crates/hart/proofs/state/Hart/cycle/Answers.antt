use Rattle.hart.proofs.Common.{refl}
use Rattle.hart.proofs.Steps.{arrives-not, arrives-on, inside-kept, step-done, step-unfetched}
use Rattle.hart.proofs.Straight.{acts-worded}
use Rattle.hart.proofs.state.Hart.cycle.Goals as goal

pub act-next-requires : goal.act-next-requires
act-next-requires g c = inside-kept _ c.requires c.fetch.ensures.kept

pub returns-in_default-clause-step : goal.returns-in_default-clause-step
returns-in_default-clause-step g c = step-unfetched c.in_default.ensures.fault

pub returns-in-Ok-clause-step : goal.returns-in-Ok-clause-step
returns-in-Ok-clause-step g c =
    let found = c.in-Some.ensures.word in
    step-done c.act-next.result found.0 found.1 c.fetch.ensures.kept
    (acts-worded _ found.0 c.flatten.ensures found.2 (rw c.of.ensures at c.act-next.ensures.acts))
    (arrives-on c.act-next.result _ _ _ c.in-Ok.ensures.0 refl c.in-Ok.ensures.1 refl) c.in-Ok.ensures.0

pub returns-in-Err-clause-step : goal.returns-in-Err-clause-step
returns-in-Err-clause-step g c =
    let found = c.in-Some.ensures.word in
    step-done c.act-next.result found.0 found.1 c.fetch.ensures.kept
    (acts-worded _ found.0 c.flatten.ensures found.2 (rw c.of.ensures at c.act-next.ensures.acts))
    (arrives-not c.act-next.result _ _ c.in-Err.ensures) c.in-Err.ensures
