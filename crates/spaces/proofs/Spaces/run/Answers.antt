use Rattle.spaces.proofs.Common.{refl, IsSpaces, spaces_of}
use Rattle.spaces.proofs.SpacesLemmas.{AdvancesTo}
use Rattle.spaces.proofs.Stepped.{ran_by}
use Rattle.spaces.proofs.Shown.{anew}
use Rattle.spaces.proofs.Ran.{RanOn, ran-sound, ran-trap}
use Rattle.spaces.proofs.Spaces.run.Given as given
use Rattle.spaces.proofs.Spaces.run.Goals as goal
use Rattle.spaces.proofs.Spaces.run.Goals.{After-run}

went : (g : given.Over) (c : After-run g)
    → RanOn g.T.Translate.held c.self.inside c.run.new.trans c.run.new.self c.run.new.ram
    (g.S.Stops.addresses c.args.stops.now) c.run.result.0 c.run.result.1
went g c = let did = c.run.ensures.runs
    in record { small = c.frames_are_whole.ensures.small; goes = did.goes; whole = did.whole }

ran : (g : given.Over) (c : After-run g)
    → IsSpaces g.T.Translate.held (ran_by c.self.inside c.run.new.trans c.run.new.self c.run.new.ram)
    × AdvancesTo (g.S.Stops.addresses c.args.stops.now) c.run.result.0 c.self.inside.active (spaces_of c.self.inside)
    (spaces_of (ran_by c.self.inside c.run.new.trans c.run.new.self c.run.new.ram))
ran g c = ran-sound c.self.inside.active c.self.invariant.spaces (went g c) refl (rw (← c.self.view_is) at c.requires)

pub invariant_of-self : goal.invariant_of-self
invariant_of-self g c =
    record { spaces = anew _ (ran g c).0; known = c.run.ensures.known }

pub returns : goal.returns
returns g c = rw (← c.self.view_is) (record {
  done = (ran g c).1;
  active = refl;
  within = c.run.ensures.runs.within;
  ends = c.run.ensures.runs.ends;
  some = c.run.ensures.runs.trap;
  behind = c.run.ensures.runs.behind;
  trap = ran-trap c.run.result.1 c.self.inside.active c.self.invariant.spaces (went g c) refl;
})
