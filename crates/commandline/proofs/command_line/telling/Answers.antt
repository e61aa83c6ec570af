use Rattle.commandline.proofs.command_line.telling.Goals as goal

pub returns : goal.returns
returns c = record {
  report = c.flag_found-report.ensures;
  json = c.option_found-json.ensures;
  registers = c.in-Ok.ensures;
  memory = c.in-Ok-count_found.ensures;
  status = c.flag_found-status.ensures;
  progress = c.flag_found-progress.ensures;
  faults = c.flag_found-faults.ensures;
  symbols = c.option_found-symbols.ensures;
}
