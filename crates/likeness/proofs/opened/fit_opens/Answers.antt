use Rattle.std.proofs.Common.{arith}
use Rattle.std.proofs.lemmas.Bool.{OnTrue_at, OnTrue_from}
use Rattle.likeness.proofs.Growing.{grows-on, open-next, so-none, table-fits}
use Rattle.likeness.proofs.Same.{opens-long}
use Rattle.likeness.specs.Pairing.{pairs_of}
use Rattle.likeness.proofs.opened.fit_opens.Goals as goal

pub loop-id-init : goal.loop-id-init
loop-id-init g c = so-none c.args.pipes.now

pub loop-id-preserved : goal.loop-id-preserved
loop-id-preserved g c = open-next (pairs_of c.args.files.now) _ _ c.loop-id.id c.loop-id.invariant
    c.fits_open.ensures.grows c.if-not-fits_open.ensures.fits

pub returns-then-not-fits_open-clause-grows : goal.returns-then-not-fits_open-clause-grows
returns-then-not-fits_open-clause-grows g c = grows-on c.loop-id.invariant.grows c.fits_open.ensures.grows

pub returns-clause-grows : goal.returns-clause-grows
returns-clause-grows g c = c.loop-id.invariant.grows

pub returns-clause-fits : goal.returns-clause-fits
returns-clause-fits g c = OnTrue_from c.are_files_paired.result _ (λ agreed.
    table-fits (pairs_of c.args.files.now) _ _ (opens-long c.args.one.now c.is_sound.ensures.sound)
    (opens-long c.args.other.now c.is_sound-2.ensures.sound) c.requires
    (λ k low. c.loop-id.invariant.fits k (omega (arith, low, c.loop-id-test.false, c.loop-id.auto.id-end)))
    (OnTrue_at agreed c.are_files_paired.ensures))
