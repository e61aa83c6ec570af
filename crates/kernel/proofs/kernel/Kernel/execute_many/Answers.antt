use Rattle.kernel.proofs.Common.{refl, kernel_of}
use Rattle.kernel.proofs.Steps.{advances-at, advances-on, on-keeps, trap-at}
use Rattle.kernel.proofs.kernel.Kernel.execute_many.Goals as goal

pub invariant_of-self : goal.invariant_of-self
invariant_of-self g c =
    let k = kernel_of c.self.inside in
    let active = rw (← c.self.view_is) at c.requires in
    let n = c.execute_many.result.0 in
    let new = c.execute_many.new.self in
    on-keeps c.self.invariant
    (advances-on _ n k _ new c.self.invariant.sound active
    (advances-at _ k.spaces.active _ n k.spaces new active c.execute_many.ensures.done))

pub returns : goal.returns
returns g c =
    let k = kernel_of c.self.inside in
    let active = rw (← c.self.view_is) at c.requires in
    let e = c.execute_many.ensures in
    rw (← c.self.view_is) (record {
      done = (
        advances-at _ k.spaces.active _ c.execute_many.result.0 k.spaces c.execute_many.new.self active
            e.done,
        refl,
      );
      within = e.within;
      ends = e.ends;
      trap = trap-at k.spaces.active _ c.execute_many.result.0 c.args.count c.execute_many.new.self
          c.execute_many.result.1 active e.trap;
    })
