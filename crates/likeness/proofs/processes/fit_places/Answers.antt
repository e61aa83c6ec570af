use Rattle.std.proofs.Common.{arith}
use Rattle.likeness.proofs.Growing.{grows-on, place-next, slots-fit, so-none}
use Rattle.likeness.proofs.Same.{places-long}
use Rattle.likeness.proofs.processes.fit_places.Goals as goal

pub loop-at-init : goal.loop-at-init
loop-at-init g c = so-none c.args.files.now

pub loop-at-preserved : goal.loop-at-preserved
loop-at-preserved g c = place-next _ _ c.loop-at.at c.loop-at.invariant c.fits_place.ensures.grows
    c.if-not-fits_place.ensures.fits

pub returns-then-not-fits_place-clause-grows : goal.returns-then-not-fits_place-clause-grows
returns-then-not-fits_place-clause-grows g c = grows-on c.loop-at.invariant.grows c.fits_place.ensures.grows

pub returns-clause-grows : goal.returns-clause-grows
returns-clause-grows g c = c.loop-at.invariant.grows

pub returns-clause-fits : goal.returns-clause-fits
returns-clause-fits g c =
    let first = places-long c.args.one.now c.is_sound.ensures.sound in
    let second = places-long c.args.other.now c.is_sound-2.ensures.sound in
    slots-fit _ _ (omega (arith, first, second)) (λ k low. c.loop-at.invariant.fits k
    (omega (arith, first, low, c.loop-at-test.false, c.loop-at.auto.at-end)))
