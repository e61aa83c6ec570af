use Rattle.hart.proofs.Common.{IsClear, take, ◌<◌, ◌≤◌}
use Rattle.hart.proofs.stops.BreakpointsStops.clear_to.Given as goal

-- up to there no index is at one of the addresses so far
abbrev pub invariant-loop-address : goal.invariant-loop-address
invariant-loop-address l = (l.k < l.end) × (l.end ≤ 1024)
    × IsClear (take l.address-index l.self.addresses.now) l.base l.k l.end
