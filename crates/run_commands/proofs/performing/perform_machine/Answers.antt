use Rattle.run_commands.proofs.performing.perform_machine.Goals as goal

pub returns : goal.returns
returns g c =
    rw c.waited_in_vain-in_vain.ensures (record {
      last = c.play_out-driven.result.0.machine;
      ended = c.play_out-driven.result.0.end;
      plays = c.play_out-driven.ensures;
      leaves = rw (← c.is_saved.ensures) (c.leave-end.ensures _ _ _ _ c.play_out-driven.ensures.plays);
    })
