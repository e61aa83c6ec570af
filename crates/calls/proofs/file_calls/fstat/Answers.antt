use Rattle.calls.proofs.Common.{ap, Fstat, fstat_row, here-of, low, refl, ◌∙◌}
use Rattle.calls.proofs.Acts.{unnamed}
use Rattle.calls.proofs.Names.{looked, read-runs}
use Rattle.calls.proofs.Attributes.{fstat-acts, fstat-can, fstat-nodeless, fstat-there, fstat-unwritable}
use Rattle.calls.proofs.file_calls.fstat.Goals as goal

pub returns-in_default : goal.returns-in_default
unfolding fstat_row
returns-in_default g c =
    unnamed (here-of c.requires) _ Fstat refl (c.low.ensures ∙ ap low c.argument.ensures) c.in_default.ensures.named

pub returns-in_default-node_of : goal.returns-in_default-node_of
returns-in_default-node_of g c =
    let none = rw c.from.ensures at c.in_default-node_of.ensures in
    fstat-nodeless (here-of c.requires) (c.low.ensures ∙ ap low c.argument.ensures) c.in-Some.ensures.named none

pub returns-then-not-can_write : goal.returns-then-not-can_write
returns-then-not-can_write g c =
    let on = rw c.from.ensures at c.in-Ok.ensures in
    let cannot = rw c.argument-address.ensures at c.if-not-can_write.ensures in
    fstat-unwritable (here-of c.requires) (c.low.ensures ∙ ap low c.argument.ensures) c.in-Some.ensures.named on cannot

pub stat-requires-clause-node : goal.stat-requires-clause-node
stat-requires-clause-node g c =
    let on = rw c.from.ensures at c.in-Ok.ensures in
    fstat-there (here-of c.requires) (c.low.ensures ∙ ap low c.argument.ensures) c.in-Some.ensures.named on

pub write-requires : goal.write-requires
write-requires g c =
    let on = rw c.from.ensures at c.in-Ok.ensures in
    let can = rw c.argument-address.ensures at c.if-not-can_write.ensures in
    rw (looked c.in_ok-told.ensures.0) (record {
      running = (read-runs c.in_ok-told.ensures.0 c.requires).active;
      can = fstat-can (here-of c.requires) (c.low.ensures ∙ ap low c.argument.ensures) c.in-Some.ensures.named on can
          c.in_ok-told.ensures.0 c.argument-address.ensures _ c.stat_bytes.ensures;
    })

pub returns : goal.returns
returns g c =
    let on = rw c.from.ensures at c.in-Ok.ensures in
    let can = rw c.argument-address.ensures at c.if-not-can_write.ensures in
    fstat-acts (here-of c.requires) (c.low.ensures ∙ ap low c.argument.ensures) c.in-Some.ensures.named on can
    c.in_ok-told.ensures.0 c.argument-address.ensures _ c.stat_bytes.ensures c.in_ok-told.ensures.1
    (rw (looked c.in_ok-told.ensures.0) at c.write.ensures)
    c.is_sound.ensures.sound
