use Rattle.commandline.proofs.CommandLineLemmas.{told}
use Rattle.commandline.proofs.command_line.check.Goals as goal

pub returns : goal.returns
returns c = told (record { image = c.in-Some.ensures })
