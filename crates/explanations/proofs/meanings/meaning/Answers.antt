use Rattle.std.proofs.Common.{ap, ◌∙◌}
use Rattle.explanations.proofs.Chosen.{or-is}
use Rattle.explanations.specs.Meanings.{among}
use Rattle.explanations.specs.declared.meanings.Place.TheVariants.{Whole}
use Rattle.explanations.proofs.meanings.meaning.Goals as goal

pub returns : goal.returns
returns c =
    let line = c.args.line.now in
    let own = c.among.ensures ∙ ap (λ rows. among Whole line rows) c.own.ensures in
    let image = c.among-2.ensures ∙ ap (λ rows. among Whole line rows) c.of_image.ensures in
    or-is _ _ _ _ _ c.or-5.ensures (or-is _ _ _ _ _ c.or-4.ensures (or-is _ _ _ _ _ c.or-3.ensures
    (or-is _ _ _ _ _ c.or-2.ensures (or-is _ _ _ _ _ c.or.ensures own image) c.among-3.ensures)
    c.among-4.ensures) c.among-5.ensures) c.among-6.ensures
