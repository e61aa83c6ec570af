use Rattle.calls.proofs.Common.{ap, arith, count_by, current-is, descriptors_in, here-of, is_none, sym, ◌∙◌}
use Rattle.std.specs.Option.{option_copied}
use Rattle.calls.proofs.Pipes.{lacks-descriptors, lacks-frames, lacks-places, lacks-room, pipe-can, pipe-opens}
use Rattle.calls.proofs.Pipes.{pipe-unwritable}
use Rattle.calls.proofs.descriptor_calls.pipe.Goals.{then-free_count-lt2-via-else-free_count-lt2+then-free_places-lt2}
use Rattle.calls.proofs.descriptor_calls.pipe.Goals.{then-free_count-lt2-via-then-free_count-lt2}
use Rattle.calls.proofs.descriptor_calls.pipe.Goals as goal

pub returns-then-not-can_write : goal.returns-then-not-can_write
returns-then-not-can_write g c =
    pipe-unwritable (here-of c.requires) (rw c.argument-address.ensures at c.if-not-can_write.ensures)

pub returns-then-free_count-lt2 : goal.returns-then-free_count-lt2
returns-then-free_count-lt2 g c =
    let can = rw c.argument-address.ensures at c.if-not-can_write.ensures in
    elim c.then-free_count-lt2.branch [
      | then-free_count-lt2-via-then-free_count-lt2 w ↦ lacks-descriptors (here-of c.requires) can
          (rw c.current.ensures at (sym c.process.ensures ∙ ap option_copied c.in-Some.is)) (omega arith)
      | then-free_count-lt2-via-else-free_count-lt2+then-free_places-lt2 w ↦ lacks-places (here-of c.requires) can
          (omega arith)
    ]

pub returns-in_default-free_pipe : goal.returns-in_default-free_pipe
returns-in_default-free_pipe g c =
    lacks-room (here-of c.requires) (rw c.argument-address.ensures at c.if-not-can_write.ensures)
    c.in_default-free_pipe.ensures.place

pub open_pipe-requires-clause-may : goal.open_pipe-requires-clause-may
open_pipe-requires-clause-may g c =
    let there = rw c.current.ensures at (sym c.process.ensures ∙ ap option_copied c.in-Some.is) in
    let two = ap (λ o. count_by is_none (descriptors_in o)) there in
    (record {
      running = c.requires.active;
      descriptors = omega (arith, two);
      places = omega arith;
      room = sym c.in-Some-free_pipe.ensures.place;
    })

pub returns-in_default-open_pipe : goal.returns-in_default-open_pipe
returns-in_default-open_pipe g c =
    let d = c.in_default-open_pipe.ensures.pipes in
    rw d.1 (lacks-frames (here-of c.requires) (rw c.argument-address.ensures at c.if-not-can_write.ensures)
    c.in-Some-free_pipe.ensures.place d.0)

pub write-requires : goal.write-requires
write-requires g c =
    let can = pipe-can (here-of c.requires) (rw c.argument-address.ensures at c.if-not-can_write.ensures)
    c.in-Some-open_pipe.ensures.pipes in
    rw (c.argument-address.ensures, c.ints.ensures, current-is can.0) (record { running = can.0; can = can.1 })

pub returns : goal.returns
returns g c =
    let can = rw c.argument-address.ensures at c.if-not-can_write.ensures in
    let active = (pipe-can (here-of c.requires) can c.in-Some-open_pipe.ensures.pipes).0 in
    pipe-opens (here-of c.requires) can c.in-Some-open_pipe.ensures.pipes c.is_sound.ensures.sound
    (rw (c.argument-address.ensures, c.ints.ensures, current-is active) at c.write.ensures)
