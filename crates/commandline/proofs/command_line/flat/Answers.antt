use Rattle.commandline.proofs.CommandLineLemmas.{told}
use Rattle.commandline.proofs.command_line.flat.Goals as goal

pub returns : goal.returns
returns c = told (record {
  frames = c.in-Some.ensures;
  tlb = c.flag_found-tlb.ensures;
  telling = c.in-Some-telling.ensures;
  file = c.in-Some-two_words.ensures.0;
  script = c.in-Some-two_words.ensures.1;
})
