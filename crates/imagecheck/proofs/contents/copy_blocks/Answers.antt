use Rattle.imagecheck.proofs.Common.{◌+◌, ◌*◌, ◌≤◌, ◌<◌, length, sym, arith, count_in, data_blocks, format_of, single}
use Rattle.imagecheck.proofs.Common.{HasSuper-of, length-data_blocks, take_more, flat_map_more}
use Rattle.std.proofs.Common.{append-nil, take_all}
use Rattle.imagecheck.proofs.Slotting.{data-at, found-data, lies-data}
use Rattle.imagecheck.proofs.contents.copy_blocks.Given as given
use Rattle.imagecheck.proofs.contents.copy_blocks.Goals as goal
use Rattle.imagecheck.proofs.contents.copy_blocks.Goals.{After-block_count-k-end, After-number-at}

small : (g : given.Over) (c : After-block_count-k-end g)
    → count_in c.args.image.now c.args.n ≤ single (format_of c.args.image.now)
small g c = rw c.block_count-k-end.ensures.count at c.block_count-k-end.ensures.most

-- the block that is copied next lies in the image
lies : (g : given.Over) (c : After-number-at g) → 1024 * c.number-at.result + 1024 ≤ length c.args.image.now
lies g c =
    let few = small g (goal.at.After-number-at g c).After-block_count-k-end in
    rw c.number-at.ensures (lies-data c.args.image.now c.args.n few (HasSuper-of c.args.image.now c.requires.rules)
    c.requires.addresses c.loop-k.k (rw c.block_count-k-end.ensures.count at c.loop-k-test.true))

pub loop-k-init : goal.loop-k-init
loop-k-init g c = sym (append-nil _)

pub number-at-requires-clause-found : goal.number-at-requires-clause-found
number-at-requires-clause-found g c =
    let few = small g (goal.at.number-at-requires-clause-found g c).After-block_count-k-end in
    found-data c.args.image.now c.args.n few (HasSuper-of c.args.image.now c.requires.rules) c.requires.addresses
    c.loop-k.k (rw c.block_count-k-end.ensures.count at c.loop-k-test.true)

pub overflow_mul-at : goal.overflow_mul-at
overflow_mul-at g c = omega (arith, lies g (goal.at.overflow_mul-at g c).After-number-at)

pub overflow_add-at : goal.overflow_add-at
overflow_add-at g c = omega (arith, lies g (goal.at.overflow_add-at g c).After-number-at)

pub slice_bounds-extend_from_slice-end : goal.slice_bounds-extend_from_slice-end
slice_bounds-extend_from_slice-end g c =
    omega (arith, lies g (goal.at.slice_bounds-extend_from_slice-end g c).After-number-at)

pub loop-k-preserved : goal.loop-k-preserved
loop-k-preserved g c =
    let within : c.loop-k.k < count_in c.args.image.now c.args.n =
    rw c.block_count-k-end.ensures.count at c.loop-k-test.true in
    let long = length-data_blocks c.args.image.now c.args.n in
    rw (
      take_more (data_blocks c.args.image.now c.args.n) c.loop-k.k 0 (omega arith),
      data-at c.args.image.now c.args.n c.loop-k.k 0 within,
      ← flat_map_more,
      ← c.loop-k.invariant,
      ← c.number-at.ensures,
    )
    c.in_ok-extend_from_slice.ensures.items

pub returns : goal.returns
returns g c =
    rw (← take_all c.loop-k.k (data_blocks c.args.image.now c.args.n)
    (omega (
      arith,
      c.loop-k-test.false,
      c.block_count-k-end.ensures.count,
      length-data_blocks c.args.image.now c.args.n,
    ))) c.loop-k.invariant
