use Rattle.calls.proofs.Common.{ap, here-of, low, Open, open_row, refl, ◌∙◌}
use Rattle.calls.proofs.Names.{after-look, looked, pathless, read-runs}
use Rattle.calls.proofs.Opens.{asks-of}
use Rattle.calls.proofs.open_calls.open.Goals as goal

pub returns-in_default : goal.returns-in_default
unfolding open_row
returns-in_default g c = pathless (here-of c.requires) _ Open refl c.in_default.ensures.path

pub open_found-requires : goal.open_found-requires
open_found-requires g c =
    let reads = c.in_ok-number.ensures in
    rw (looked reads.0) (record {
      runs = read-runs reads.0 c.requires;
      asks = (
        _,
        asks-of c.in-Some.ensures.path (c.low-flags.ensures ∙ ap low c.argument.ensures) reads
            c.in-Some-2.is,
      );
    })

pub open_new-requires : goal.open_new-requires
open_new-requires g c =
    let reads = c.in_ok-number.ensures in
    rw (looked reads.0) (record {
      runs = read-runs reads.0 c.requires;
      asks = asks-of c.in-Some.ensures.path (c.low-flags.ensures ∙ ap low c.argument.ensures) reads c.in-None.is;
      path = c.in-Some.ensures.bytes;
    })

pub returns-in-Some-2 : goal.returns-in-Some-2
returns-in-Some-2 g c = after-look c.in_ok-number.ensures.0 _ c.requires.up Open _ c.open_found.ensures

pub returns-in-None : goal.returns-in-None
returns-in-None g c = after-look c.in_ok-number.ensures.0 _ c.requires.up Open _ c.open_new.ensures
