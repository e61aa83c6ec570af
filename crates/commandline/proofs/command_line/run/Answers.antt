use Rattle.commandline.proofs.CommandLineLemmas.{told}
use Rattle.commandline.proofs.command_line.run.Goals as goal

pub returns : goal.returns
returns c = told c.in-Some.ensures
