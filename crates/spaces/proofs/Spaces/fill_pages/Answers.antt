use Rattle.spaces.proofs.Spaces.fill_pages.Given as given
use Rattle.spaces.proofs.Spaces.fill_pages.Goals as goal
use Rattle.spaces.proofs.Places.{held-is, length-pages_of, stands-there}
use Rattle.spaces.proofs.Shown.{anew, Placed}
use Rattle.spaces.proofs.Traded.{reframed-showing}
use Rattle.spaces.proofs.Common.{view_with, Some, write_bytes, pages_of}

pub space_at-space-requires : goal.space_at-space-requires
space_at-space-requires g c = stands-there c.self.inside c.args.at (rw (← c.self.view_is) at c.requires.space)

pub fill-requires : goal.fill-requires
fill-requires g c =
    let x = c.space_at-space.result.now in
    let e = c.space_at-space.ensures in
    record {
      space = c.self.invariant.spaces.machine.each c.args.at x e;
      inside = rw (← c.self.view_is, held-is c.self.inside _ e, length-pages_of c.self.inside.memory.ram x)
          at c.requires.inside;
    }

filled : (g : given.Over) (c : goal.After-fence_loaded g)
    → Placed g.T.Translate.held c.self.inside
    (record c.self.inside {
      memory = c.fill.new.memory;
      translator = c.fence_loaded.new.translator;
    }) c.args.at
    (Some (view_with (write_bytes (pages_of c.self.inside.memory.ram c.space_at-space.result.now) c.args.address
    c.args.bytes.now) c.space_at-space.result.now.size))
filled g c = reframed-showing c.self.invariant.spaces c.args.at c.space_at-space.result.now c.fill.new.memory.ram
    c.fill.new.memory.frames
    c.fence_loaded.new.translator _ c.space_at-space.ensures c.fill.ensures.frames c.fence_loaded.ensures.fewer
    c.fence_loaded.ensures.fenced c.fill.ensures.written

pub invariant_of-self : goal.invariant_of-self
invariant_of-self g c = record { spaces = anew _ ((filled g c).sound); known = c.forget.ensures _ }

pub returns : goal.returns
returns g c = rw (← c.self.view_is, held-is c.self.inside _ c.space_at-space.ensures) (filled g c).view
