use Rattle.std.proofs.Common.{refl}
use Rattle.commandline.proofs.CommandLineLemmas.{is-job}
use Rattle.commandline.proofs.command_line.file_job.Goals as goal

pub returns-in-Some : goal.returns-in-Some
returns-in-Some c = is-job c.get.result c.args.matches.now _ _ (c.in-Some.ensures.found.0 refl) c.in-Some.ensures.rows
    c.get.ensures

pub returns-in-Some-subcommand_matches : goal.returns-in-Some-subcommand_matches
returns-in-Some-subcommand_matches c =
    is-job c.put.result c.args.matches.now _ _ (c.in-Some-subcommand_matches.ensures.found.0 refl)
    c.in-Some-subcommand_matches.ensures.rows c.put.ensures

pub returns-in-Some-subcommand_matches-2 : goal.returns-in-Some-subcommand_matches-2
returns-in-Some-subcommand_matches-2 c =
    is-job c.migrate.result c.args.matches.now _ _ (c.in-Some-subcommand_matches-2.ensures.found.0 refl)
    c.in-Some-subcommand_matches-2.ensures.rows c.migrate.ensures

pub returns : goal.returns
returns c = c.program_job.ensures
