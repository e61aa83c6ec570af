use Rattle.kernel.proofs.Common.{ap, refl, sym, true, kernel_of, slice_set, waking, Kernel}
use Rattle.kernel.proofs.Named.{counts-few}
use Rattle.kernel.proofs.Forking.{fork-by, fork-home, fork-keeps, fork-there, seat-free}
use Rattle.kernel.proofs.Opening.{hold-few}
use Rattle.kernel.proofs.Turning.{runner-of}
use Rattle.kernel.proofs.Runs.{active-space}
use Rattle.kernel.proofs.kernel.Kernel.fork.Goals as goal

pub unwrap-process-requires : goal.unwrap-process-requires
unwrap-process-requires g c =
    fork-there (runner-of c.is_sound.ensures.sound c.requires.running) c.on_hart.ensures.process

pub copy-requires-clause-from : goal.copy-requires-clause-from
copy-requires-clause-from g c =
    rw c.current-at.ensures (active-space c.self.view_is c.self.invariant.sound c.requires.running)

pub copy-requires-clause-free : goal.copy-requires-clause-free
copy-requires-clause-free g c =
    seat-free (kernel_of c.self.inside) c.self.invariant.sound c.in-Ok.seat (sym c.in-Ok.ensures.seat)

pub share_all-requires : goal.share_all-requires
share_all-requires g c = record { few = counts-few (kernel_of c.self.inside) c.self.invariant.sound }

pub hold-requires : goal.hold-requires
hold-requires g c =
    let may = rw (← c.self.view_is) at c.requires in
    record {
      up = may.up;
      node = fork-home (runner-of c.self.invariant.sound may.running) may.up
          (rw (c.unwrap-process.ensures, ← c.self.view_is) at c.on_hart.ensures.process);
      few =
          hold-few c.self.invariant.sound may.up c.unwrap-process.result.directory;
    }

pub take_seat-requires : goal.take_seat-requires
take_seat-requires g c = sym c.in-Ok.ensures.seat

pub invariant_of-self-2 : goal.invariant_of-self-2
invariant_of-self-2 g c =
    let may = rw (← c.self.view_is) at c.requires in
    let d = rw (c.current-at.ensures, ← c.self.view_is) at c.if-not-copy.ensures.done in
    rw (
      c.wake.ensures,
      c.take_seat.ensures,
      c.make_child.ensures,
      d.1,
      c.share_all.ensures,
      c.hold.ensures,
    )
    (fork-keeps c.self.invariant may.running (sym c.in-Ok.ensures.seat)
    (rw (← c.self.view_is) at c.is_sound.ensures.zero)
    (rw (← c.self.view_is) at c.is_sound.ensures.aligned)
    (rw (c.unwrap-process.ensures, ← c.self.view_is) at c.on_hart.ensures.process)
    d.0)

pub returns : goal.returns
returns g c =
    let said = rw (c.unwrap-process.ensures, ← c.self.view_is) at c.on_hart.ensures.process in
    let seat = c.in-Ok.seat in
    let d = rw (c.current-at.ensures, ← c.self.view_is) at c.if-not-copy.ensures.done in
    rw (
      c.wake.ensures,
      c.take_seat.ensures,
      c.make_child.ensures,
      d.1,
      c.share_all.ensures,
      c.hold.ensures,
      ← c.self.view_is,
    ) (
      seat,
      refl,
      record {
        next = sym c.in-Ok.ensures.seat;
        fits = d.0;
        same = λ p at. ap (λ (k : Kernel). waking k (slice_set c.self.inside.table.awake seat.place true))
            (fork-by (kernel_of c.self.inside) _ seat said at);
      },
    )
