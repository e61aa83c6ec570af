use Rattle.std.proofs.Common.{refl}
use Rattle.kernel.proofs.Opening.{hold-few, open-keeps, open-there}
use Rattle.kernel.proofs.kernel.Kernel.open_on.Goals as goal

pub hold-requires : goal.hold-requires
hold-requires g c =
    let may = rw (← c.self.view_is) at c.requires in
    record { up = may.up; node = open-there may; few = hold-few c.self.invariant.sound may.up c.args.node }

pub invariant_of-self : goal.invariant_of-self
invariant_of-self g c = rw (c.wakeup.ensures, c.hold.ensures)
    (open-keeps c.self.invariant (rw (← c.self.view_is) at c.requires) c.is_whole.ensures
    (rw (c.current-at.ensures, ← c.self.view_is) at c.open_as-descriptor.ensures.opens))

pub returns : goal.returns
returns g c =
    let o = rw (c.current-at.ensures, ← c.self.view_is) at c.open_as-descriptor.ensures.opens in
    rw (c.wakeup.ensures, c.hold.ensures, ← c.self.view_is)
    (record { place = o.number; first = o.place; free = o.free; same = rw (o.names, o.opens) refl })
