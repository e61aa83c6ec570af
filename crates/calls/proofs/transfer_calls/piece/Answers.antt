use Rattle.calls.proofs.Common.{current_space, length, Load, piece_at, ◌<◌}
use Rattle.vm.proofs.ReachLemmas.{piece-some}
use Rattle.calls.proofs.transfer_calls.piece.Goals as goal

pub returns-else-piece-most-clause-some : goal.returns-else-piece-most-clause-some
returns-else-piece-most-clause-some g c =
    let k = c.args.kernel.now in
    let some : 0 < length (piece_at Load (current_space k).memory c.args.address) =
    piece-some Load (current_space k).memory c.args.address c.pages_are_whole.ensures.sized
    c.requires.readable in
    rw c.readable-piece.ensures some
