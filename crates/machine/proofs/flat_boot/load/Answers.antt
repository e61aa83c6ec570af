use Rattle.machine.proofs.flat_boot.load.Given as given
use Rattle.machine.proofs.flat_boot.load.Goals.{After-fill}
use Rattle.machine.proofs.flat_boot.load.Goals as goal
use Rattle.machine.proofs.FlatSpaces.{alone-space, created, fill-inside, filled-made, filled_segment, first-free}
use Rattle.machine.proofs.FlatSpaces.{flat-loaded, guard-made, guard-over, segment-made, segment-over}
use Rattle.std.proofs.Common.{arith, ◌≡◌}
use Rattle.machine.specs.Flat.{alone}

-- the program is in its pages
filled : (g : given.Over) (c : After-fill g)
    → c.fill.new.self ≡ alone c.args.spaces.now.frames (filled_segment c.args.bytes.now)
filled g c = filled-made c.args.bytes.now
    (segment-made c.args.bytes.now _ (omega (arith, c.pages_in-pages.ensures)) c.requires
    c.if-not-create.ensures.done.1 c.if-not-grow.ensures.done.1) c.fill.ensures

pub create-requires-clause-free : goal.create-requires-clause-free
create-requires-clause-free g c = first-free c.requires

pub grow-requires : goal.grow-requires
grow-requires g c = alone-space (created c.requires c.if-not-create.ensures.done.1)

pub returns-then-not-grow : goal.returns-then-not-grow
returns-then-not-grow g c =
    segment-over c.args.bytes.now _ (omega (arith, c.pages_in-pages.ensures)) c.requires c.if-not-create.ensures.done.1
    c.if-not-grow.ensures.refused.0

pub fill-requires : goal.fill-requires
fill-requires g c =
    let segment = segment-made c.args.bytes.now _ (omega (arith, c.pages_in-pages.ensures)) c.requires
    c.if-not-create.ensures.done.1 c.if-not-grow.ensures.done.1 in
    record { space = alone-space segment; inside = fill-inside c.args.bytes.now segment }

pub grow-requires-2 : goal.grow-requires-2
grow-requires-2 g c = alone-space (filled g (goal.at.grow-requires-2 g c).After-fill)

pub returns-then-not-grow-2 : goal.returns-then-not-grow-2
returns-then-not-grow-2 g c =
    guard-over c.args.bytes.now (filled g (goal.at.returns-then-not-grow-2 g c).After-fill)
    c.if-not-grow-2.ensures.refused.0

pub grow-requires-3 : goal.grow-requires-3
grow-requires-3 g c = alone-space
    (guard-made c.args.bytes.now (filled g (goal.at.grow-requires-3 g c).After-fill) c.if-not-grow-2.ensures.done.1)

pub returns : goal.returns
returns g c =
    let guard = guard-made c.args.bytes.now (filled g (goal.at.returns g c).After-fill) c.if-not-grow-2.ensures.done.1
    in
    flat-loaded c.args.bytes.now c.args.spaces.now c.grow-2.new.self c.grow-3.new.self guard c.grow-3.result
    c.grow-3.ensures.done c.grow-3.ensures.refused
