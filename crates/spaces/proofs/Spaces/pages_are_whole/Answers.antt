use Rattle.spaces.proofs.Spaces.pages_are_whole.Goals as goal
use Rattle.spaces.proofs.Places.{stands-there, are-whole}
use Rattle.std.proofs.Common.{refl}

pub returns : goal.returns
returns g c =
    let w = are-whole g.T.Translate.held c.self.inside c.self.invariant.spaces c.args.at _ refl
    (stands-there c.self.inside c.args.at (rw (← c.self.view_is) at c.requires))
    c.frames_are_whole.ensures.memory in
    record {
      few = rw (← c.self.view_is) w.few;
      whole = rw (← c.self.view_is) w.whole;
      sized = rw (← c.self.view_is) w.sized;
    }
