use Rattle.std.proofs.Common.{sym}
use Rattle.explore.proofs.Walking.{path-over, path-then, up-after}
use Rattle.explore.proofs.along.go_path.Goals as goal

pub go_pieces-requires : goal.go_pieces-requires
go_pieces-requires g c =
    up-after _ _ _ _ _ c.in_ok-refused.refused (sym c.if-is_some.ensures) c.in_ok-refused.ensures

pub returns-then-is_some-2 : goal.returns-then-is_some-2
returns-then-is_some-2 g c = path-over c.args.path.now c.as_slice.result.now _ _ _ _ _ _ c.in_ok-refused.refused
    c.in_ok-stopped.stopped c.as_slice.ensures.value (sym c.if-is_some.ensures) c.in_ok-refused.ensures
    c.in_ok-stopped.ensures (sym c.if-is_some-2.ensures)

pub returns : goal.returns
returns g c = path-then c.args.path.now c.as_slice.result.now _ _ _ _ _ _ c.in_ok-refused.refused
    c.in_ok-stopped.stopped c.as_slice.ensures.value (sym c.if-is_some.ensures) c.in_ok-refused.ensures
    c.in_ok-stopped.ensures _ _ c.go_steps-2.result (sym c.if-is_some-2.ensures) c.go_steps-2.ensures
