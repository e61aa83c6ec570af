use Rattle.imagemake.proofs.Common.{Some, [], ap, ◌++◌, ◌∙◌, ◌∷◌, Decides-eqb, strip_prefix_is}
use Rattle.imagemake.proofs.made.Made.start.Goals as goal

pub returns-in-Some-strip_prefix-clause-joined : goal.returns-in-Some-strip_prefix-clause-joined
returns-in-Some-strip_prefix-clause-joined c =
    let above = c.self.inside.above.now in
    strip_prefix_is Decides-eqb c.args.path.now above (Some c.in-Some.behind) c.in-Some.ensures.cases
    ∙ ap (λ t. above ++ t) (strip_prefix_is Decides-eqb c.in-Some.behind.now (0x2f ∷ [])
    (Some c.in-Some-strip_prefix.below) c.in-Some-strip_prefix.ensures.cases)
