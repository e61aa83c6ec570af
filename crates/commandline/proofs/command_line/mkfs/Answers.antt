use Rattle.commandline.proofs.CommandLineLemmas.{told}
use Rattle.commandline.proofs.command_line.mkfs.Goals as goal

pub returns : goal.returns
returns c = told (record {
  size = c.in-Some.ensures;
  inodes = c.in-Some-number_found.ensures;
  manifest = c.in-Some-two_words.ensures.0;
  image = c.in-Some-two_words.ensures.1;
})
