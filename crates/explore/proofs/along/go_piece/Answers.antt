use Rattle.std.proofs.Common.{sym}
use Rattle.explore.proofs.Walking.{goes-over, goes-then-ok}
use Rattle.explore.proofs.along.go_piece.Goals as goal

pub returns-then-is_some : goal.returns-then-is_some
returns-then-is_some g c =
    goes-over _ _ _ _ _ _ c.in_ok-stopped.stopped (sym c.if-is_some.ensures) c.in_ok-stopped.ensures

pub returns : goal.returns
returns g c = goes-then-ok _ _ _ _ _ _ _ _ c.in_ok-stopped.stopped c.go_interrupt.result (sym c.if-is_some.ensures)
    c.in_ok-stopped.ensures c.go_interrupt.ensures
