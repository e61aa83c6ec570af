use Rattle.std.proofs.Common.{refl}
use Rattle.commandline.proofs.CommandLineLemmas.{is-job}
use Rattle.commandline.proofs.command_line.program_job.Goals as goal

pub returns-in-Some : goal.returns-in-Some
returns-in-Some c = is-job c.asm.result c.args.matches.now _ _ (c.in-Some.ensures.found.0 refl) c.in-Some.ensures.rows
    c.asm.ensures

pub returns-in-Some-subcommand_matches : goal.returns-in-Some-subcommand_matches
returns-in-Some-subcommand_matches c =
    is-job c.assemble.result c.args.matches.now _ _ (c.in-Some-subcommand_matches.ensures.found.0 refl)
    c.in-Some-subcommand_matches.ensures.rows c.assemble.ensures

pub returns-in-Some-subcommand_matches-2 : goal.returns-in-Some-subcommand_matches-2
returns-in-Some-subcommand_matches-2 c =
    is-job c.dump.result c.args.matches.now _ _ (c.in-Some-subcommand_matches-2.ensures.found.0 refl)
    c.in-Some-subcommand_matches-2.ensures.rows c.dump.ensures
