use Rattle.spaces.proofs.Spaces.can_read.Goals as goal
use Rattle.spaces.proofs.Places.{stands-there}

pub space_at-space-requires : goal.space_at-space-requires
space_at-space-requires g c = stands-there c.self.inside c.args.at (rw (← c.self.view_is) at c.requires)

pub can_read-requires : goal.can_read-requires
can_read-requires g c = (c.self.invariant.spaces.machine.each c.args.at c.space_at-space.result.now
    c.space_at-space.ensures).dense
