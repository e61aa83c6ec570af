use Rattle.file_transfers.proofs.Common.{List, subst, ℕ, Serves}
use Rattle.file_transfers.proofs.Fits.{given-whole}
use Rattle.tree.specs.Calls.{WritesAt}
use Rattle.file_transfers.proofs.writing.write_node.Goals as goal

pub returns-then-first-count : goal.returns-then-first-count
returns-then-first-count g c =
    subst (λ (bytes : List ℕ). Serves c.args.tree.now c.write_piece.new.tree c.write_piece.result
    (WritesAt c.args.tree.now c.write_piece.new.tree c.args.number c.args.offset bytes))
    (given-whole _ c.args.address c.args.count c.requires.readable c.pages_are_whole.ensures.sized
    c.piece-first.ensures c.if-first-count.true)
    c.write_piece.ensures
