use Rattle.run_commands.proofs.sessions.boot_image.Goals as goal

pub returns-in-Ok-clause-booted : goal.returns-in-Ok-clause-booted
returns-in-Ok-clause-booted c = record {
  disk = c.in_ok-disk.disk;
  made = record { whole = c.in_ok-disk.ensures.whole; cut = c.in_ok-disk.ensures.cut };
  booted = c.in-Ok.ensures.booted;
}
