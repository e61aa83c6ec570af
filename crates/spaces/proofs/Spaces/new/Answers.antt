use Rattle.spaces.proofs.Spaces.new.Goals as goal
use Rattle.spaces.proofs.Common.{frames_at, refl, machine-new, none-flat, none-there}

pub invariant_of-result-2 : goal.invariant_of-result-2
invariant_of-result-2 g c = record {
  spaces = record {
    machine = rw (c.from_array_in-2.ensures.items, none-flat frames_at 100 refl, c.from_array_in.ensures.items)
        (machine-new _ _ 64 c.in_ok-memory.ensures.valid c.in_ok-memory.ensures.shared);
    all = c.from_array_in.ensures.len;
    loaded = tt;
    active = tt;
    inside = λ t h. absurd (c.fence.ensures t h);
    pipes = c.from_array_in-2.ensures.len;
    both = λ q p at. absurd (none-there 100 q p (rw c.from_array_in-2.ensures.items at at));
  };
  known = c.in_ok-decoded.ensures _;
}
