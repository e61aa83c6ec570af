use Rattle.spaces.proofs.Spaces.activate.Goals as goal
use Rattle.spaces.proofs.Places.{stands-there}
use Rattle.spaces.proofs.Traded.{loads-there}
use Rattle.std.proofs.Common.{refl}

pub space_at-requires : goal.space_at-requires
space_at-requires g c = stands-there c.self.inside c.args.at (rw (← c.self.view_is) at c.requires.space)

pub invariant_of-self-2 : goal.invariant_of-self-2
invariant_of-self-2 g c =
    let is = c.self.invariant.spaces in
    record {
      spaces = record {
        machine = is.machine;
        all = is.all;
        loaded = loads-there is c.args.at c.space_at.result.now c.load.new.translator c.root-root.result
            c.space_at.ensures c.root-root.ensures c.load.ensures.fewer c.load.ensures.fenced;
        active = refl;
        inside = λ t held. is.inside t (c.load.ensures.fewer t held);
        pipes = is.pipes;
        both = is.both;
      };
      known = c.self.invariant.known;
    }
