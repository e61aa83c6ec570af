use Rattle.kernel.proofs.Common.{with_mark}
use Rattle.kernel.proofs.Changes.{marks-keeps}
use Rattle.kernel.proofs.Watching.{kernel-waking, watched-changed}
use Rattle.kernel.proofs.kernel.Kernel.mark.Goals as goal

pub invariant_of-self : goal.invariant_of-self
invariant_of-self g c = rw (c.wake.ensures, c.mark.ensures) (record {
  sound = kernel-waking (marks-keeps c.args.at c.self.view_is c.self.invariant.sound c.requires) _;
  watched = watched-changed c.self.invariant.watched c.args.at with_mark (λ p pid is. is);
})
