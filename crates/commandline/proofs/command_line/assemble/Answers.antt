use Rattle.commandline.proofs.CommandLineLemmas.{told}
use Rattle.commandline.proofs.command_line.assemble.Goals as goal

pub returns : goal.returns
returns c = told (record {
  texts = c.in-Some.ensures;
  out = c.option_found-out.ensures;
  expand = c.flag_found-expand.ensures;
  debug = c.flag_found-debug.ensures;
  verbose = c.flag_found-verbose.ensures;
})
