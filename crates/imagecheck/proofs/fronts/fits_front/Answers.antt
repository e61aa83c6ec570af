use Rattle.imagecheck.proofs.Common.{arith, Decides-like, slot-places_in}
use Rattle.imagecheck.proofs.Judging.{refused}
use Rattle.imagecheck.proofs.fronts.fits_front.Goals as goal

pub returns-then-not-holds : goal.returns-then-not-holds
returns-then-not-holds c =
    refused c.if-not-holds.true
    (rw (c.place_at.ensures.place, c.as_slice.ensures, ← slot-places_in c.args.bytes.now 0 (omega arith))
    at c.holds.ensures) (λ h. h.own)

pub returns : goal.returns
returns c =
    let own = rw (c.place_at.ensures.place, c.as_slice.ensures, ← slot-places_in c.args.bytes.now 0 (omega arith))
    at c.holds.ensures in
    let above = rw (
      c.place_at-2.ensures.place,
      c.as_slice-2.ensures,
      ← slot-places_in c.args.bytes.now 1 (omega arith),
    ) at c.holds-2.ensures in
    Decides-like _ (λ e. record { own = own.0 c.if-not-holds.false; parent = e }) (λ h. h.parent) above
