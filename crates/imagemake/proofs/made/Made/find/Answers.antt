use Rattle.imagemake.proofs.Common.{None, Some, ap, ◌∙◌, Names, found}
use Rattle.imagemake.proofs.Pathing.{found-index}
use Rattle.imagemake.proofs.made.Made.find.Goals as goal

pub returns-in_err-i : goal.returns-in_err-i
returns-in_err-i c =
    c.from_residual.ensures ∙ found-index (c.args.directory, c.args.name) c.self.inside.names.entries None
    c.in_err-i.ensures.index
    ∙ ap (λ (m : Names). found m.items c.args.directory c.args.name.now) c.self.view_is

pub returns : goal.returns
returns c =
    found-index (c.args.directory, c.args.name) c.self.inside.names.entries (Some c.in_ok-i.i) c.in_ok-i.ensures.index
    ∙ ap (λ (m : Names). found m.items c.args.directory c.args.name.now) c.self.view_is
