use Rattle.kernel.proofs.Common.{ap, is_some, refl, sym, Ready, ◌∙◌}
use Rattle.kernel.proofs.Current.{has-some}
use Rattle.kernel.proofs.Steps.{left-kernel}
use Rattle.kernel.proofs.Runs.{live, run-of}
use Rattle.kernel.proofs.Watching.{kernel-waking, left-watched, typed-kernel}
use Rattle.kernel.proofs.Asleep.{watched-ticks}
use Rattle.kernel.proofs.kernel.Kernel.interrupt.Goals as goal

pub leave-requires : goal.leave-requires
leave-requires g c =
    let s = c.is_sound.ensures in
    let active = has-some (sym (c.is_some.ensures ∙ ap is_some c.active.ensures) ∙ c.if-is_some.true) in
    let run = (run-of c.args.self.now _ s.sound active).1 in
    record {
      sound = left-kernel _ _ _ run.0 run.1 s.sound s.zero s.aligned Ready refl refl (live _ _ _ run.0 run.1 s.sound)
          tt;
      watched = left-watched s.sound s.watched _ Ready active refl;
    }

pub invariant_of-self : goal.invariant_of-self
invariant_of-self g c = rw c.wakeup.ensures
    (record {
      sound = kernel-waking (typed-kernel c.self-2.invariant.sound _ _) _;
      watched = watched-ticks c.self-2.invariant.watched _;
    })
