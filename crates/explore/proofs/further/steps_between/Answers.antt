use Rattle.std.proofs.Common.{refl, sym, ◌∙◌}
use Rattle.explore.proofs.Walking.{steps-found}
use Rattle.explore.proofs.further.steps_between.Goals as goal

pub returns : goal.returns
returns c = steps-found c.args.path.now c.args.further.now c.checked_sub.result
    (sym c.as_slice.ensures.value ∙ c.if-not-are_same.ensures refl ∙ c.as_slice-2.ensures.value) c.checked_sub.ensures
