use Rattle.file_transfers.proofs.Common.{arith, sym, length-take, length-take-le, page-there}
use Rattle.file_transfers.proofs.Pieces.{piece-fits}
use Rattle.file_transfers.proofs.reading.read_piece.Goals as goal

pub slice_bounds-fill-end : goal.slice_bounds-fill-end
slice_bounds-fill-end g c =
    let told = c.in_ok-count.ensures.told.1 c.requires.node.0 c.requires.node.1 in
    piece-fits c.args.tree.now.files c.args.number c.args.offset c.requires.node.0 c.requires.node.1 c.args.buffer.now
    c.read.new.out c.in_ok-count.count told.0 told.1

pub slice_bounds-fill-end-2 : goal.slice_bounds-fill-end-2
slice_bounds-fill-end-2 g c =
    let told = c.in_ok-count.ensures.told.1 c.requires.node.0 c.requires.node.1 in
    sym (length-take-le c.in_ok-count.count c.read.new.out
    (piece-fits c.args.tree.now.files c.args.number c.args.offset c.requires.node.0 c.requires.node.1
    c.args.buffer.now c.read.new.out c.in_ok-count.count told.0 told.1))

pub fill-requires-clause-inside : goal.fill-requires-clause-inside
fill-requires-clause-inside g c = λ i low.
    let told = c.in_ok-count.ensures.told.1 c.requires.node.0 c.requires.node.1 in
    page-there _ _ _ i c.pages_are_whole.ensures.sized c.requires.writable
    (omega (arith, low, length-take c.in_ok-count.count c.read.new.out, told.0))
