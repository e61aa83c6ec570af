use Rattle.programs.proofs.Loads.{fits-next, is-next, never-refused, nothing-more, segment-next, skipped-next}
use Rattle.programs.proofs.Places.{held-still}
use Rattle.programs.proofs.Reading.{err-told, kept-file, kept-is-file, kept-leaves, kept-more, kept-none, kept-one}
use Rattle.programs.proofs.Reading.{lost}
use Rattle.programs.proofs.Common.{ap, arith, length, view_at}
use Rattle.programs.proofs.loading.load_next.Goals as goal

pub returns-in_err-read_segment : goal.returns-in_err-read_segment
returns-in_err-read_segment g c = record {
  serves = lost c.from_residual.result _ c.from_residual.ensures.1 _ (kept-none _ c.requires.ready.up)
      c.in_err-read_segment.ensures;
  loaded = err-told c.from_residual.result _ c.from_residual.ensures.1 _;
  failed = held-still _ _ c.from_residual.result c.requires.ready.space;
}

pub load_segment-requires : goal.load_segment-requires
load_segment-requires g c =
    let kept = kept-one c.in_ok-read_segment.ensures.told.same c.in_ok-read_segment.ensures in
    let is = is-next _ c.args.place _ c.args.end c.in_ok-read_segment.ensures.told.value c.requires.next.next.0
    c.requires.next.next.1 c.unwrap.ensures c.in-Some.is c.requires.next.whole in
    let next = fits-next c.args.spaces.now c.args.at c.args.number c.args.place c.args.end kept
    c.requires.next.next.0 is c.requires.next.next.2 c.requires.next.next.3 in
    record {
      ready = record {
        up = kept.up;
        file = kept-is-file kept c.requires.ready.file;
        space = c.requires.ready.space;
      };
      long = omega (arith, c.requires.long, ap length (kept-file kept c.args.number), c.ranges.len.fits);
      next = record { paged = c.requires.next.paged; follows = next.0; few = next.1; room = next.2 };
    }

pub unwrap-requires : goal.unwrap-requires
unwrap-requires g c =
    never-refused _ c.args.place (view_at c.args.spaces.now c.args.at) c.args.end
    c.in_ok-read_segment.ensures.told.value
    c.requires.next.next.0 c.requires.next.next.1

pub returns-in_ok-load_segment-in-Some : goal.returns-in_ok-load_segment-in-Some
returns-in_ok-load_segment-in-Some g c =
    let kept = kept-one c.in_ok-read_segment.ensures.told.same c.in_ok-read_segment.ensures in
    record {
      serves = kept-leaves (kept-more kept c.in_ok-load_segment-in-Some.ensures.serves.told
          c.in_ok-load_segment-in-Some.ensures.serves);
      loaded = λ next some.
          let is = is-next _ c.args.place _ c.args.end c.in_ok-read_segment.ensures.told.value next some
          c.unwrap.ensures
          c.in-Some.is c.requires.next.whole in
          segment-next c.args.spaces.now c.args.at c.args.number c.args.place c.args.end kept next is
          c.in_ok-load_segment-in-Some.ensures.loaded;
      failed = tt;
    }

pub returns-in-None : goal.returns-in-None
returns-in-None g c =
    let kept = kept-one c.in_ok-read_segment.ensures.told.same c.in_ok-read_segment.ensures in
    record {
      serves = kept-leaves kept;
      loaded = λ next some.
          nothing-more c.args.spaces.now c.args.at c.args.number c.args.place c.args.end kept next
          c.requires.ready.space c.requires.next.paged
          (skipped-next _ c.args.place (view_at c.args.spaces.now c.args.at) c.args.end
          c.in_ok-read_segment.ensures.told.value next some c.unwrap.ensures c.in-None.is);
      failed = tt;
    }

pub read_segment-requires : goal.read_segment-requires
read_segment-requires g c = record {
  up = c.requires.ready.up;
  file = c.requires.ready.file;
  long = c.requires.long;
  within = omega (arith, c.requires.long, c.requires.next.within);
}
