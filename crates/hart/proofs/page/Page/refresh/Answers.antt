use Rattle.hart.proofs.Common.{refl}
use Rattle.hart.proofs.page.Page.refresh.Goals as goal

pub returns-then-has-clause-now : goal.returns-then-has-clause-now
returns-then-has-clause-now c = c.if-has.ensures refl

pub returns-then-has-clause-others : goal.returns-then-has-clause-others
returns-then-has-clause-others c = λ j side. refl
