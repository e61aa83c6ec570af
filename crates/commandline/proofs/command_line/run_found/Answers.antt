use Rattle.commandline.proofs.command_line.run_found.Goals as goal

pub returns : goal.returns
returns c = record {
  frames = c.in-Some.ensures;
  tlb = c.flag_found-tlb.ensures;
  fail = c.in-Ok.ensures;
  save = c.option_found-save.ensures;
  telling = c.in-Some-telling.ensures;
  image = c.in-Some-two_words.ensures.0;
  script = c.in-Some-two_words.ensures.1;
}
