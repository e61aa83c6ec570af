use Rattle.spaces.proofs.Spaces.tables.Goals as goal
use Rattle.spaces.proofs.Rights.{seen-right, shows-right, let_through}
use Rattle.spaces.proofs.Places.{held-is, stands-there}
use Rattle.vm.specs.Space.{pages_in, pages_of}

pub space_at-space-requires : goal.space_at-space-requires
space_at-space-requires g c = stands-there c.self.inside c.args.at (rw (← c.self.view_is) at c.requires)

pub root_of-requires : goal.root_of-requires
root_of-requires g c = (c.self.invariant.spaces.machine.each c.args.at c.space_at-space.result.now
    c.space_at-space.ensures).dense

pub returns : goal.returns
returns g c =
    let i = c.self.inside in
    let x = c.space_at-space.result.now in
    rw (← c.self.view_is, held-is i _ c.space_at-space.ensures)
    (shows-right i.memory.ram c.root_of.result.0 (let_through i.memory.ram x) (pages_of i.memory.ram x)
    (seen-right i.memory.ram x.root.0 (pages_in x.size)
    (c.self.invariant.spaces.machine.each c.args.at x c.space_at-space.ensures).dense.leaves) c.root_of.ensures)
