use Rattle.std.proofs.Common.{ap, arith, ◌*◌, ◌+◌}
use Rattle.programs.proofs.Places.{has-held, one-longer, paged-held, room-held, room-less, stack-added}
use Rattle.programs.proofs.loading.add_stack.Goals as goal

pub returns : goal.returns
returns g c =
    stack-added _ _ _ _ c.requires.space (ap (λ n. (n + 1) * 4096) c.pages-pages.ensures.count) (omega arith)
    c.add_pages.ensures c.add_pages-2.ensures c.fill.ensures

pub add_pages-requires-clause-few : goal.add_pages-requires-clause-few
add_pages-requires-clause-few g c = omega arith

pub add_pages-requires-clause-room : goal.add_pages-requires-clause-room
add_pages-requires-clause-room g c = room-less c.args.spaces.now c.args.at (omega arith) c.requires.room

pub add_pages-requires-2 : goal.add_pages-requires-2
add_pages-requires-2 g c = record {
  space = has-held _ _ _ c.add_pages.ensures c.requires.space;
  paged = paged-held _ _ _ c.add_pages.ensures c.requires.space;
  few = omega arith;
  room = room-held _ _ _ c.add_pages.ensures
      (omega (arith, one-longer c.args.spaces.now c.args.at _ c.requires.space c.add_pages.ensures)) c.requires.room;
}

pub fill-requires : goal.fill-requires
fill-requires g c =
    let has = has-held _ _ _ c.add_pages.ensures c.requires.space in
    let one = one-longer _ _ _ c.requires.space c.add_pages.ensures in
    let two = one-longer _ _ _ has c.add_pages-2.ensures in
    record {
      space = has-held _ _ _ c.add_pages-2.ensures has;
      inside = λ i low. omega (arith, low, c.told-page, c.pages-pages.ensures.count, one, two);
    }
