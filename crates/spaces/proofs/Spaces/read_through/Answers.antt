use Rattle.spaces.proofs.Common.{ap, arith, length, length-take, view_at, page-there}
use Rattle.spaces.proofs.Spaces.read_through.Goals as goal

pub fill-requires-clause-inside : goal.fill-requires-clause-inside
fill-requires-clause-inside g c = λ i low.
    let same = ap (λ s. view_at s c.args.at) c.take_bytes-taken.ensures.rest in
    page-there _ c.args.address (length c.args.buffer.now) i c.pages_are_whole.ensures.sized
    (rw same c.requires.writable)
    (omega (
      arith,
      low,
      length-take c.take_bytes-taken.result c.take_bytes-taken.new.buffer,
      c.take_bytes-taken.ensures.count,
    ))
