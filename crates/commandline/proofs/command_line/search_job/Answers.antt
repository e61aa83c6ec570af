use Rattle.std.proofs.Common.{refl}
use Rattle.commandline.proofs.CommandLineLemmas.{is-job}
use Rattle.commandline.proofs.command_line.search_job.Goals as goal

pub returns-in-Some : goal.returns-in-Some
returns-in-Some c = is-job c.explore.result c.args.matches.now _ _ (c.in-Some.ensures.found.0 refl)
    c.in-Some.ensures.rows c.explore.ensures

pub returns : goal.returns
returns c = c.image_job.ensures
