use Rattle.spaces.proofs.Spaces.copy_from.Goals as goal
use Rattle.spaces.proofs.Traded.{parts-sound}
use Rattle.std.proofs.Common.{refl, sym, ◌∙◌}

pub copy_from-requires : goal.copy_from-requires
copy_from-requires g c =
    let count = rw (← c.self.view_is, ← c.source.view_is) at c.requires in
    record {
      ram = count;
      counts = c.self.invariant.spaces.machine.free.size ∙ count ∙ sym c.source.invariant.spaces.machine.free.size;
    }

pub invariant_of-self : goal.invariant_of-self
invariant_of-self g c = record {
  spaces = parts-sound g.U.Translate.held g.T.Translate.held c.source.inside _ record {
    memory = c.copy_from.ensures;
    places = c.duplicate_places-self-inside.ensures;
    hart = c.duplicate-self-inside.ensures;
    active = refl;
    loaded = refl;
    pipes = c.duplicate_pipes-self-inside.ensures;
    fenced = c.fence.ensures;
  } c.source.invariant.spaces;
  known = c.forget.ensures _;
}
