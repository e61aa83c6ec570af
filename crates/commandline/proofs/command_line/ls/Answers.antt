use Rattle.commandline.proofs.CommandLineLemmas.{told}
use Rattle.commandline.proofs.command_line.ls.Goals as goal

pub returns : goal.returns
returns c = told (record {
  recursive = c.flag_found-recursive.ensures;
  image = c.in-Some.ensures.0;
  path = c.in-Some.ensures.1;
})
