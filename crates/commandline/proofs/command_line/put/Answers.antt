use Rattle.commandline.proofs.CommandLineLemmas.{told}
use Rattle.commandline.proofs.command_line.put.Goals as goal

pub returns : goal.returns
returns c = told (record {
  image = c.in-Some.ensures.0;
  path = c.in-Some.ensures.1;
  file = c.in-Some-word_found.ensures;
})
