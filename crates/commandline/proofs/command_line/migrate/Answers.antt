use Rattle.commandline.proofs.CommandLineLemmas.{told}
use Rattle.commandline.proofs.command_line.migrate.Goals as goal

pub returns : goal.returns
returns c = told (record { old = c.in-Some.ensures.0; new = c.in-Some.ensures.1 })
