use Rattle.commandline.proofs.command_line.reach.Goals as goal

pub returns : goal.returns
returns c = record {
  ticks = c.in-Ok.ensures;
  states = c.in-Some.ensures;
  seconds = c.in-Ok-count_found.ensures;
  fine = c.flag_found-fine.ensures;
  random = c.in-Ok-count_found-2.ensures;
  seed = c.in-Some-number_found.ensures;
}
