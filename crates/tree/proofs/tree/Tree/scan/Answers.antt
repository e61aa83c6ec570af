use Rattle.tree.proofs.Common.{None, subst, arith, le_refl, flat_map, length-spelling, IsFirst, Scans, place_bytes}
use Rattle.tree.proofs.Following.{end-lost, folder-now, folder-was, now-begin, now-read, now-up}
use Rattle.tree.proofs.Ending.{end-read}
use Rattle.tree.proofs.Scanning.{all-passed, first-there, next-is, next-read, next-within}
use Rattle.tree.proofs.Places.{folder-fits}
use Rattle.tree.proofs.tree.Tree.scan.Goals as goal

pub block-init : goal.block-init
block-init g c = record { now = now-begin; low = le_refl _; before = λ f j less low. absurd (omega arith) }

pub read_places-requires : goal.read_places-requires
read_places-requires g c =
    let now = c.block.invariant.now in
    record {
      up = now-up now c.requires.up;
      directory = folder-now now c.requires.directory;
      within = λ f.
          let was = folder-was now f in
          let fits = folder-fits c.is_whole.ensures was in
          next-within was.places fits _ _
          (next-is was.places fits _ _ (c.requires.count was) c.block-test.true c.min-places.ensures) _;
    }

pub returns-in_err-read_places : goal.returns-in_err-read_places
returns-in_err-read_places g c =
    end-lost c.block.invariant.now c.read_places.ensures c.in_err-read_places.was c.from_residual.ensures.1

pub returns-in-Some : goal.returns-in-Some
returns-in-Some g c =
    let i = c.block.invariant in
    end-read c.requires.up (now-read i.now c.read_places.ensures c.in_ok-read_places.was) (λ f.
    let fits = folder-fits c.is_whole.ensures f in
    let next = next-is f.places fits c.block.k c.min-places.result (c.requires.count f) c.block-test.true
    c.min-places.ensures in
    let out = next-read f.places fits c.block.k c.min-places.result next c.block.block c.min-places.array_long
    (c.in_ok-read_places.ensures.serves.told.1 (folder-now i.now f)) in
    first-there (flat_map place_bytes f.places) c.block.k c.min-places.result next.fits c.args.sought.now c.args.from
    (i.before f) c.in-Some.found i.low
    (subst (λ b. IsFirst c.args.sought.now b 0 c.in-Some.found) out c.in-Some.ensures))

pub block-preserved : goal.block-preserved
block-preserved g c =
    let i = c.block.invariant in
    record {
      now = now-read i.now c.read_places.ensures c.in_ok-read_places.was;
      low = let low = i.low in omega arith;
      before = λ f.
          let fits = folder-fits c.is_whole.ensures f in
          let next = next-is f.places fits c.block.k c.min-places.result (c.requires.count f) c.block-test.true
          c.min-places.ensures in
          let out = next-read f.places fits c.block.k c.min-places.result next c.block.block c.min-places.array_long
          (c.in_ok-read_places.ensures.serves.told.1 (folder-now i.now f)) in
          all-passed (flat_map place_bytes f.places) c.block.k c.min-places.result next.fits c.args.sought.now
          c.args.from (i.before f) (subst (λ b. Scans c.args.sought.now b 0 None) out c.in_default.ensures);
    }

pub returns : goal.returns
returns g c =
    let i = c.block.invariant in
    end-read c.requires.up i.now
    (λ f j less low. i.before f j
    (let end = c.block-test.false in let count = c.requires.count f
    in omega (arith, length-spelling f.places (folder-fits c.is_whole.ensures f))) low)
