use Rattle.hart.proofs.Common.{arith}
use Rattle.hart.proofs.Straight.{place-of}
use Rattle.hart.proofs.stops.clear_of.Goals as goal

pub returns-then-address-base-clause-clear : goal.returns-then-address-base-clause-clear
returns-then-address-base-clause-clear c =
    λ j more less e. absurd (c.if-address-base.true
    (place-of j c.requires.page (omega (arith, c.ranges.base.fits)) (omega (arith, less, c.requires.place.1)) e).0)

pub returns-clause-clear : goal.returns-clause-clear
returns-clause-clear c = λ j more less e. absurd (
    let bound = c.requires.place.1 in
    let at = place-of j c.requires.page (omega (arith, c.ranges.base.fits)) (omega (arith, less, bound)) e in
    omega (arith, less, at.1))
