use Rattle.calls.proofs.Common.{ap, current, has_seat, here-of, Kernel, refl, sym, ◌∙◌}
use Rattle.calls.proofs.Opens.{create-fails, created-openable, created-runs, open-absent, open-created, open-new-full}
use Rattle.calls.proofs.open_calls.open_new.Goals as goal

pub returns-then-not-creates : goal.returns-then-not-creates
returns-then-not-creates g c = open-absent (here-of c.requires.runs) c.requires.asks (sym c.if-not-creates.ensures)

pub returns-then-not-has_seat : goal.returns-then-not-has_seat
returns-then-not-has_seat g c =
    open-new-full (here-of c.requires.runs) c.requires.asks (sym c.if-not-creates.ensures)
    (sym c.if-not-has_seat.ensures)

pub open_on-descriptor-requires : goal.open_on-descriptor-requires
open_on-descriptor-requires g c = rw (ap current c.create-made.ensures.rest) (record {
  runs = created-runs (here-of c.requires.runs) c.requires.asks (sym c.if-not-creates.ensures)
      c.create-made.ensures.rest c.is_sound.ensures.sound c.create-made.ensures.made c.in-Ok.is c.requires.runs;
  seat = ap (λ (y : Kernel). has_seat y (current c.args.kernel.now)) c.create-made.ensures.rest
      ∙ sym c.if-not-has_seat.ensures;
  may = created-openable (here-of c.requires.runs) c.requires.asks (sym c.if-not-creates.ensures)
      c.create-made.ensures.rest c.is_sound.ensures.sound c.create-made.ensures.made c.in-Ok.is _ refl;
})

pub returns-in-Ok : goal.returns-in-Ok
returns-in-Ok g c = open-created (here-of c.requires.runs) c.requires.asks (sym c.if-not-creates.ensures)
    c.create-made.ensures.rest c.is_sound.ensures.sound c.create-made.ensures.made c.in-Ok.is
    (rw (ap current c.create-made.ensures.rest) at c.open_on-descriptor.ensures)

pub returns-in-Err : goal.returns-in-Err
returns-in-Err g c = create-fails (here-of c.requires.runs) c.requires.asks (sym c.if-not-creates.ensures)
    c.create-made.ensures.rest c.is_sound.ensures.sound c.create-made.ensures.made c.in-Err.fault c.in-Err.is
    c.refuse.result c.refuse.ensures
