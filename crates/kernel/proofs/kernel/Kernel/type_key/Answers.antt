use Rattle.kernel.proofs.Common.{refl}
use Rattle.kernel.proofs.Watching.{kernel-waking, typed-kernel}
use Rattle.kernel.proofs.Asleep.{watched-bytes}
use Rattle.kernel.proofs.kernel.Kernel.type_key.Goals as goal

pub invariant_of-self : goal.invariant_of-self
invariant_of-self g c = rw c.wakeup.ensures
    (record {
      sound = kernel-waking (typed-kernel c.self.invariant.sound c.key.new.self _) _;
      watched = watched-bytes c.self.invariant.watched _ refl;
    })
