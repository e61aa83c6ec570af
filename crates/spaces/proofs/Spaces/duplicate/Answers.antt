use Rattle.spaces.proofs.Spaces.duplicate.Goals as goal
use Rattle.spaces.proofs.Traded.{parts-sound}
use Rattle.std.proofs.Common.{refl}

pub invariant_of-result : goal.invariant_of-result
invariant_of-result g c = record {
  spaces = parts-sound g.T.Translate.held g.U.Translate.held c.self.inside _ record {
    memory = c.in_ok-memory.ensures;
    places = c.duplicate_places.ensures;
    hart = c.duplicate-2.ensures;
    active = refl;
    loaded = refl;
    pipes = c.duplicate_pipes.ensures;
    fenced = c.fence.ensures;
  } c.self.invariant.spaces;
  known = c.in_ok-decoded.ensures _;
}
