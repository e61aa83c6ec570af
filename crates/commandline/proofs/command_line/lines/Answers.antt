use Rattle.commandline.proofs.command_line.lines.Goals as goal

pub returns : goal.returns
returns c = record {
  bytes = c.in-Some.ensures;
  each = c.flag_found-each.ensures;
  time = c.flag_found-time.ensures;
  turns = c.flag_found-turns.ensures;
  core_is_pid = c.flag_found-core_is_pid.ensures;
}
