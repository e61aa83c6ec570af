use Rattle.commandline.proofs.CommandLineLemmas.{told}
use Rattle.commandline.proofs.command_line.dump.Goals as goal

pub returns : goal.returns
returns c = told (record { names = c.flag_found-names.ensures; elf = c.in-Some.ensures })
