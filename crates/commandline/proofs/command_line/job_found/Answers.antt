use Rattle.std.proofs.Common.{refl}
use Rattle.commandline.proofs.CommandLineLemmas.{is-job}
use Rattle.commandline.proofs.command_line.job_found.Goals as goal

pub returns-in-Some : goal.returns-in-Some
returns-in-Some c = is-job c.flat.result c.args.matches.now _ _ (c.in-Some.ensures.found.0 refl) c.in-Some.ensures.rows
    c.flat.ensures

pub returns-in-Some-subcommand_matches : goal.returns-in-Some-subcommand_matches
returns-in-Some-subcommand_matches c =
    is-job c.run.result c.args.matches.now _ _ (c.in-Some-subcommand_matches.ensures.found.0 refl)
    c.in-Some-subcommand_matches.ensures.rows c.run.ensures

pub returns-in-Some-subcommand_matches-2 : goal.returns-in-Some-subcommand_matches-2
returns-in-Some-subcommand_matches-2 c =
    is-job c.live.result c.args.matches.now _ _ (c.in-Some-subcommand_matches-2.ensures.found.0 refl)
    c.in-Some-subcommand_matches-2.ensures.rows c.live.ensures

pub returns-in-Some-subcommand_matches-3 : goal.returns-in-Some-subcommand_matches-3
returns-in-Some-subcommand_matches-3 c =
    is-job c.play.result c.args.matches.now _ _ (c.in-Some-subcommand_matches-3.ensures.found.0 refl)
    c.in-Some-subcommand_matches-3.ensures.rows c.play.ensures

pub returns-in-Some-subcommand_matches-4 : goal.returns-in-Some-subcommand_matches-4
returns-in-Some-subcommand_matches-4 c =
    is-job c.trace.result c.args.matches.now _ _ (c.in-Some-subcommand_matches-4.ensures.found.0 refl)
    c.in-Some-subcommand_matches-4.ensures.rows c.trace.ensures

pub returns-in-Some-subcommand_matches-5 : goal.returns-in-Some-subcommand_matches-5
returns-in-Some-subcommand_matches-5 c =
    is-job c.gdb.result c.args.matches.now _ _ (c.in-Some-subcommand_matches-5.ensures.found.0 refl)
    c.in-Some-subcommand_matches-5.ensures.rows c.gdb.ensures

pub returns : goal.returns
returns c = c.search_job.ensures
