use Rattle.std.proofs.Common.{◌≡◌, ◌∙◌, ap, map, refl, subst, true}
use Rattle.clap.specs.Words.{HasMatchesOf, app_of, is_simple, subcommand_of}
use Rattle.commandline.specs.Declarations.{IsJob, declared}
use Rattle.commandline.proofs.command_line.job_read.Goals as goal

pub returns-in-Some : goal.returns-in-Some
returns-in-Some c =
    let words = map (λ word. word.now) c.args.words.now in
    let same : app_of c.args.command.now ≡ declared = c.requires in
    let simple : is_simple (app_of c.args.command.now) ≡ true = ap is_simple same ∙ refl in
    let found : HasMatchesOf (app_of c.args.command.now) words c.in_ok-matches.matches = c.in_ok-matches.ensures.ok.2 in
    subst (λ found. IsJob found c.in-Some.job) ((found simple).1 ∙ ap (λ app. subcommand_of app words) same)
    c.in-Some.ensures
