use Rattle.imagemake.proofs.Common.{None, Some, ap, sym, arith, ◌∙◌, Names, is_folder}
use Rattle.imagemake.proofs.Pathing.{folder-entry, is_folder-low}
use Rattle.imagemake.proofs.made.Made.is_directory.Goals as goal

pub returns-then-number-lt2 : goal.returns-then-number-lt2
returns-then-number-lt2 c = sym (is_folder-low _ _ (omega arith))

pub returns-in-Some : goal.returns-in-Some
returns-in-Some c =
    folder-entry c.self.inside.names.entries c.args.number (omega arith) (Some _) c.in-Some.ensures.entry
    ∙ ap (λ (m : Names). is_folder m.items c.args.number) c.self.view_is

pub returns-in-None : goal.returns-in-None
returns-in-None c =
    folder-entry c.self.inside.names.entries c.args.number (omega arith) None c.in-None.ensures.entry
    ∙ ap (λ (m : Names). is_folder m.items c.args.number) c.self.view_is
