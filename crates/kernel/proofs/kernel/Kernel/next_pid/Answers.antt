use Rattle.kernel.proofs.Common.{kernel_of, next-same}
use Rattle.kernel.proofs.Readies.{pid-shown}
use Rattle.kernel.proofs.kernel.Kernel.next_pid.Goals as goal

pub returns : goal.returns
returns g c = rw (← c.self.view_is) (next-same _ _ _ _ (pid-shown (kernel_of c.self.inside)) c.next_pid.ensures)
