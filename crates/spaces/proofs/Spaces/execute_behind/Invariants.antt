use Rattle.std.proofs.Common.{◌≡◌, ◌≤◌, ◌-◌}
use Rattle.hart.specs.Stops.{IsPast}
use Rattle.spaces.proofs.SpacesLemmas.{AdvancesTo}
use Rattle.spaces.proofs.Spaces.execute_behind.Given as goal

-- count - left instructions are done so far
abbrev pub invariant-loop-left : goal.invariant-loop-left
invariant-loop-left g l = record {
  bounded : l.left ≤ l.count;
  active : l.self.active ≡ l.fn.self.active;
  past : IsPast (g.S.Stops.addresses l.stops) (l.count - l.left) l.self.pc;
  advances : AdvancesTo (g.S.Stops.addresses l.stops) (l.count - l.left) l.fn.self.active l.fn.self l.self;
}

abbrev pub decreases-loop-left : goal.decreases-loop-left
decreases-loop-left g l = l.left
