use Rattle.std.proofs.Common.{arith}
use Rattle.likeness.proofs.Growing.{descriptor-next, grows-on, slots-fit, so-none}
use Rattle.likeness.proofs.pairs.fit_descriptors.Goals as goal

pub loop-fd-init : goal.loop-fd-init
loop-fd-init c = so-none c.args.files.now

pub loop-fd-preserved : goal.loop-fd-preserved
loop-fd-preserved c = descriptor-next _ _ c.loop-fd.fd c.loop-fd.invariant c.fits_descriptor.ensures.grows
    c.if-not-fits_descriptor.ensures.fits

pub returns-then-not-fits_descriptor-clause-grows : goal.returns-then-not-fits_descriptor-clause-grows
returns-then-not-fits_descriptor-clause-grows c =
    grows-on c.loop-fd.invariant.grows c.fits_descriptor.ensures.grows

pub returns-clause-grows : goal.returns-clause-grows
returns-clause-grows c = c.loop-fd.invariant.grows

pub returns-clause-fits : goal.returns-clause-fits
returns-clause-fits c = slots-fit _ _ c.if-other-one.false (λ k low. c.loop-fd.invariant.fits k
    (omega (arith, low, c.loop-fd-test.false)))
