use Rattle.std.proofs.Common.{arith, sym}
use Rattle.explore.proofs.Walking.{goes-all, goes-last, goes-more, goes-none}
use Rattle.explore.proofs.along.go_pieces.Goals as goal

pub loop-piece-init : goal.loop-piece-init
loop-piece-init g c = goes-none c.args.machine.now c.args.printed.now.inner.items c.requires

pub loop-piece-preserved : goal.loop-piece-preserved
loop-piece-preserved g c = goes-more c.args.pieces.now c.loop-piece.piece-index _ c.loop-piece-test.true _ _ _ _ _ _
    c.in_ok-stopped.stopped c.loop-piece.invariant c.in_ok-stopped.ensures (sym c.if-is_some.ensures)

pub returns-then-is_some : goal.returns-then-is_some
returns-then-is_some g c = goes-last c.args.pieces.now c.loop-piece.piece-index _ c.loop-piece-test.true _ _ _ _ _ _
    c.in_ok-stopped.stopped c.loop-piece.invariant c.in_ok-stopped.ensures (sym c.if-is_some.ensures)

pub returns : goal.returns
returns g c = goes-all c.args.pieces.now c.loop-piece.piece-index _ _ _ _ _ (omega arith) c.loop-piece.invariant
