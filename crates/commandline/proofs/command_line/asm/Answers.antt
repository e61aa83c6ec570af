use Rattle.commandline.proofs.CommandLineLemmas.{told}
use Rattle.commandline.proofs.command_line.asm.Goals as goal

pub returns : goal.returns
returns c = told (record { text = c.in-Some.ensures.0; elf = c.in-Some.ensures.1 })
