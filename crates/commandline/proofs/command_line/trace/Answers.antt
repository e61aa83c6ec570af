use Rattle.commandline.proofs.CommandLineLemmas.{told}
use Rattle.commandline.proofs.command_line.trace.Goals as goal

pub returns : goal.returns
returns c = told (record {
  run = c.in-Some.ensures;
  part = c.in-Some-part.ensures;
  lines = c.in-Some-lines.ensures;
  text = c.option_found-text.ensures;
  perfetto = c.option_found-perfetto.ensures;
  commits = c.option_found-commits.ensures;
  jsonl = c.option_found-jsonl.ensures;
  play = c.flag_found-play.ensures;
})
