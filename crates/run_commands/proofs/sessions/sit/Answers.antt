use Rattle.run_commands.proofs.sessions.sit.Goals as goal

pub returns : goal.returns
returns g c = record {
  last = c.sit_out-machine.result.machine;
  ended = c.sit_out-machine.result.end;
  sits = c.sit_out-machine.ensures;
  leaves = c.leave-end.ensures _ _ _ _ c.sit_out-machine.ensures.plays;
}
