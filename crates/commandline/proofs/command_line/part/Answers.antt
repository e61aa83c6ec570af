use Rattle.commandline.proofs.command_line.part.Goals as goal

pub returns : goal.returns
returns c = record {
  pid = c.in-Ok.ensures;
  calls = c.option_found-calls.ensures;
  from = c.in-Ok-count_found.ensures;
  to = c.in-Ok-count_found-2.ensures;
}
