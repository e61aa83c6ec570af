use Rattle.kernel.proofs.Common.{arith, kernel_of}
use Rattle.kernel.proofs.Named.{counts-few}
use Rattle.kernel.proofs.Turning.{dup-keeps}
use Rattle.kernel.proofs.kernel.Kernel.dup.Goals as goal

pub dup-requires : goal.dup-requires
dup-requires g c = let few =
    counts-few (kernel_of c.self.inside) c.self.invariant.sound c.from.result in omega (arith, few)

pub invariant_of-self : goal.invariant_of-self
invariant_of-self g c =
    rw (c.dup.ensures, c.set_descriptor.ensures, c.from.ensures, c.current-at.ensures, ← c.self.view_is)
    (dup-keeps c.self.invariant (rw (← c.self.view_is) at c.requires.may))
