use Rattle.run_commands.proofs.performing.perform_disk.Goals as goal

pub returns-clause-ran : goal.returns-clause-ran
returns-clause-ran g c = record {
  first = c.in_ok-machine.machine;
  booted = c.in_ok-machine.ensures.booted;
  performed = c.perform_machine.ensures;
}
