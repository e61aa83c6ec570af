use Rattle.imagemake.proofs.Common.{[], ◌∷◌, ◌++◌, ap, map, subst, sym, ◌∙◌, LeadsTo, Names, found, made_name, name_of}
use Rattle.imagemake.proofs.MadeSearch.{leads-push}
use Rattle.imagemake.proofs.Pathing.{names-insert}
use Rattle.imagemake.proofs.made.Made.push.Goals as goal

pub returns-clause-items : goal.returns-clause-items
returns-clause-items c =
    let spot = c.args.spot in
    let one = made_name spot.directory spot.below.now c.args.is_directory in
    ap (map name_of) c.in-Ok.ensures.entries
    ∙ names-insert (spot.directory, spot.below) c.self.inside.names.entries c.args.is_directory
    (ap (λ (m : Names). found m.items spot.directory spot.below.now) c.self.view_is ∙ c.requires.absent)
    ∙ ap (λ (m : Names). m.items ++ one ∷ []) c.self.view_is

pub invariant_of-self : goal.invariant_of-self
invariant_of-self c = subst (λ items. LeadsTo items c.args.spot.above.now c.args.spot.directory)
    (sym (returns-clause-items c)) (leads-push c.requires.leads _)
