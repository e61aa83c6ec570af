use Rattle.kernel.proofs.Common.{ap, Kernel, refl, Some, sym, ◌∙◌}
use Rattle.kernel.proofs.Runs.{active-space}
use Rattle.kernel.proofs.Memories.{fetch-keeps, fetch-told}
use Rattle.kernel.proofs.kernel.Kernel.read_node.Goals as goal

pub read_node-read-requires : goal.read_node-read-requires
read_node-read-requires g c = rw (c.current-at.ensures, ← c.self.view_is) (record {
  up = rw (← c.self.view_is) at c.requires.up;
  node = rw (← c.self.view_is) at c.requires.node;
  space = active-space refl c.self.invariant.sound (rw (← c.self.view_is) at c.requires.running);
  writable = rw (← c.self.view_is) at c.requires.writable;
})

pub invariant_of-self : goal.invariant_of-self
invariant_of-self g c =
    let e = c.read_node-read.ensures in
    let active = ap (λ (k : Kernel). k.spaces.active) c.self.view_is ∙ c.requires.running
    ∙ ap Some (sym c.current-at.ensures) in
    fetch-keeps _ _ _ _ _ _ _ _ c.self.invariant active _ e.serves.told
    e.serves.down e.written e.failed c.frames_suffice.ensures

pub returns : goal.returns
returns g c =
    let e = c.read_node-read.ensures in
    rw (← c.self.view_is) (record {
      told = fetch-told _ _ _ _ _ _ _ _ _ e.serves.told (rw (c.current-at.ensures, ← c.self.view_is) at e.written);
      up = e.serves.up;
      down = e.serves.down;
      same_device = e.serves.same_device;
      cause = e.serves.cause;
    })
