use Rattle.kernel.proofs.Common.{refl, sym, kernel_of, zombie_place}
use Rattle.kernel.proofs.Working.{collected-kernel, has-reaped, unreaped-go, watched-without, zombie-idle}
use Rattle.kernel.proofs.Working.{zombie-stands}
use Rattle.kernel.proofs.kernel.Kernel.collect.Goals as goal

pub invariant_of-self : goal.invariant_of-self
invariant_of-self g c = rw (
  c.reap.ensures.places,
  unreaped-go c.self.inside.table c.args.parent
      (zombie_place c.self.inside.table c.args.parent) refl (sym c.in_default.ensures.reaped),
) c.self.invariant

pub returns-in_default : goal.returns-in_default
returns-in_default g c =
    let none = unreaped-go c.self.inside.table c.args.parent (zombie_place c.self.inside.table c.args.parent) refl
    (sym c.in_default.ensures.reaped) in
    rw (c.reap.ensures.places, ← c.self.view_is) (record { reaped = rw none refl; collected = rw none refl })

pub destroy-requires : goal.destroy-requires
destroy-requires g c =
    let has = has-reaped {k = kernel_of c.self.inside} c.in-Some.ensures.reaped in
    record {
      space = zombie-stands c.self.invariant.sound c.in-Some.reaped.place has.child has.zombie;
      idle = zombie-idle c.self.invariant.sound c.in-Some.reaped.place has.child has.zombie;
    }

pub invariant_of-self-2 : goal.invariant_of-self-2
invariant_of-self-2 g c =
    let has = has-reaped {k = kernel_of c.self.inside} c.in-Some.ensures.reaped in
    rw (c.destroy.ensures, c.reap.ensures.places) (record {
      sound = rw has.found (collected-kernel c.self.invariant.sound c.in-Some.reaped.place has.child has.zombie);
      watched = watched-without c.self.inside.table c.self.invariant.watched
          (zombie_place c.self.inside.table c.args.parent);
    })

pub returns : goal.returns
returns g c =
    let has = has-reaped {k = kernel_of c.self.inside} c.in-Some.ensures.reaped in
    rw (c.destroy.ensures, c.reap.ensures.places, ← c.self.view_is)
    (record { reaped = c.in-Some.ensures.reaped; collected = rw has.found refl })
