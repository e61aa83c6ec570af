use Rattle.std.proofs.Common.{None, take}
use Rattle.explore.specs.Along.{GoesBy}
use Rattle.orders.specs.Paths.{pieces_events}
use Rattle.explore.proofs.along.go_pieces.Given as goal

abbrev pub invariant-loop-piece : goal.invariant-loop-piece
invariant-loop-piece g l = GoesBy (pieces_events (take l.piece-index l.pieces)) l.fn.machine l.machine
    l.fn.printed.inner.items l.printed.inner.items None
