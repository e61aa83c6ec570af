use Rattle.commandline.proofs.CommandLineLemmas.{told}
use Rattle.commandline.proofs.command_line.play.Goals as goal

pub returns : goal.returns
returns c = told (record {
  run = c.in-Some.ensures;
  script = c.option_found-script.ensures;
})
