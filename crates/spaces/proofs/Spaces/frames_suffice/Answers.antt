use Rattle.spaces.proofs.Spaces.frames_suffice.Goals as goal
use Rattle.spaces.proofs.Places.{taken-fits}

pub returns : goal.returns
returns g c = rw (← c.self.view_is) (taken-fits g.T.Translate.held c.self.inside c.self.invariant.spaces)
