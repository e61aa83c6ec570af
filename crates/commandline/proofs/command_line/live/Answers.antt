use Rattle.commandline.proofs.CommandLineLemmas.{told}
use Rattle.commandline.proofs.command_line.live.Goals as goal

pub returns : goal.returns
returns c = told (record {
  frames = c.in-Some.ensures;
  quantum = c.in-Ok.ensures;
  script = c.option_found-script.ensures;
  save = c.option_found-save.ensures;
  terminal = c.flag_found-terminal.ensures;
  edit = c.flag_found-edit.ensures;
  symbols = c.option_found-symbols.ensures;
  image = c.in-Some-word_found.ensures;
})
