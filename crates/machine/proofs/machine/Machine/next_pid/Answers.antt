use Rattle.machine.proofs.machine.Machine.next_pid.Goals as goal

pub returns : goal.returns
returns g c = rw (← c.self.view_is) c.next_pid.ensures
