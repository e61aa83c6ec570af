use Rattle.kernel.proofs.Common.{refl}
use Rattle.kernel.proofs.Runs.{active-space}
use Rattle.kernel.proofs.Memories.{store-keeps, store-told}
use Rattle.kernel.proofs.kernel.Kernel.write_node.Goals as goal

pub write_node-wrote-requires : goal.write_node-wrote-requires
write_node-wrote-requires g c = rw (c.current-at.ensures, ← c.self.view_is) (record {
  up = rw (← c.self.view_is) at c.requires.up;
  file = rw (← c.self.view_is) at c.requires.file;
  space = active-space refl c.self.invariant.sound (rw (← c.self.view_is) at c.requires.running);
  readable = rw (← c.self.view_is) at c.requires.readable;
})

pub invariant_of-self : goal.invariant_of-self
invariant_of-self g c =
    let e = c.write_node-wrote.ensures in
    store-keeps _ _ _ _ _ _ _ c.self.invariant (rw (← c.self.view_is) at c.requires.up)
    (rw (← c.self.view_is) at c.requires.file) _ e.told e.down c.is_done.ensures

pub returns : goal.returns
returns g c =
    let e = c.write_node-wrote.ensures in
    rw (← c.self.view_is) (record {
      told = store-told _ _ _ _ _ _ _ _ (rw (c.current-at.ensures, ← c.self.view_is) at e.told);
      up = e.up;
      down = e.down;
      same_device = e.same_device;
      cause = e.cause;
    })
