use Rattle.std.proofs.Common.{arith, None, sym, ◌∙◌, ◌∷◌, []}
use Rattle.timeline.proofs.GoingOn.{gave}
use Rattle.unixmodel.specs.Failures.{Rises}
use Rattle.timeline.proofs.giving.give.Goals as goal

pub returns : goal.returns
returns c =
    let g = gave _ _ (c.args.event ∷ []) None None (Rises 0 0) c.run-done.result c.requires
    (sym c.device-disk.ensures.failures) (λ r. omega arith) c.run-done.ensures.gives in
    record { state = g.state; sound = g.sound; over = λ no. g.over (sym c.is_ok.ensures.value ∙ no) }
