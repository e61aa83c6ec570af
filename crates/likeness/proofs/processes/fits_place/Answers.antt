use Rattle.std.proofs.Common.{sym, ◌∙◌}
use Rattle.likeness.proofs.Same.{none-fit, place-fit}
use Rattle.likeness.specs.Pairing.{pairs_of}
use Rattle.likeness.proofs.processes.fits_place.Goals as goal

pub returns-in_default-clause-fits : goal.returns-in_default-clause-fits
returns-in_default-clause-fits g c = none-fit c.args.one.now c.args.other.now c.args.at (pairs_of c.args.files.now)
    c.is_none.result _ (sym c.in_default.is ∙ c.whole.ensures.process) c.whole-in_default.ensures.process
    c.is_none.ensures

pub returns-clause-fits : goal.returns-clause-fits
returns-clause-fits g c =
    place-fit c.args.one.now c.args.other.now c.args.at (pairs_of c.fit_descriptors.new.files) c.fit_descriptors.result
    c.in-Some.process c.in-Some-whole.their (sym c.in-Some.is ∙ c.whole.ensures.process)
    (sym c.in-Some-whole.is ∙ c.whole-2.ensures.process)
    (rw (c.ticks.ensures, c.ticks-2.ensures) at c.if-not-is_same_process.ensures)
    (rw (c.spaces.ensures, c.spaces-2.ensures) at c.if-not-has_same_space.ensures) c.fit_descriptors.ensures.fits
