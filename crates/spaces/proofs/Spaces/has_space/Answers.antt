use Rattle.spaces.proofs.Spaces.has_space.Goals as goal
use Rattle.spaces.proofs.Places.{shown-there}
use Rattle.std.proofs.Common.{◌∙◌}

pub returns : goal.returns
returns g c = rw (← c.self.view_is) (c.stands.ensures ∙ shown-there c.self.inside c.args.at)
