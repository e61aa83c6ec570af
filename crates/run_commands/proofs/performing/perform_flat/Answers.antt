use Rattle.run_commands.proofs.performing.perform_flat.Goals as goal

pub returns-clause-ran : goal.returns-clause-ran
returns-clause-ran g c = record {
  first = c.in_ok-machine.machine;
  last = c.play_out-driven.result.0.machine;
  booted = c.in_ok-machine.ensures.booted;
  ended = c.play_out-driven.ensures.plays;
}
