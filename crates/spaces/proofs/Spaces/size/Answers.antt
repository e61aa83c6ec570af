use Rattle.spaces.proofs.Spaces.size.Goals as goal
use Rattle.spaces.proofs.Places.{stands-there}

pub space_at-space-requires : goal.space_at-space-requires
space_at-space-requires g c = stands-there c.self.inside c.args.at (rw (← c.self.view_is) at c.requires)
