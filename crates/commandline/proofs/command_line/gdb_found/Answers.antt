use Rattle.commandline.proofs.command_line.gdb_found.Goals as goal

pub returns : goal.returns
returns c = record {
  frames = c.in-Some.ensures;
  memory = c.in-Some-number_found.ensures;
  recorded = c.option_found-recorded.ensures;
  symbols = c.option_found-symbols.ensures;
  image = c.in-Some-word_found.ensures;
  script = c.option_found-script.ensures;
}
