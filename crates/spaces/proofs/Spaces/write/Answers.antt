use Rattle.spaces.proofs.Common.{length, sym, page-there}
use Rattle.spaces.proofs.Spaces.write.Goals as goal

pub fill-requires-clause-inside : goal.fill-requires-clause-inside
fill-requires-clause-inside g c =
    λ i low. page-there _ c.args.address (length c.args.bytes.now) i c.pages_are_whole.ensures.sized
    (sym c.if-not-can_write.ensures) low
