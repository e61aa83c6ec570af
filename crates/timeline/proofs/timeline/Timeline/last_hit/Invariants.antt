use Rattle.std.proofs.Common.{◌+◌, ◌-◌, ◌≡◌, ◌≤◌}
use Rattle.timeline.specs.Line.{HitIn}
use Rattle.timeline.proofs.timeline.Timeline.last_hit.Given as goal

-- the last time so far with a reason to stop
abbrev pub invariant-loop-self : goal.invariant-loop-self
invariant-loop-self g l = record {
  same : l.self ≡ record l.fn.self { at = l.self.at };
  later : l.fn.self.at ≤ l.self.at;
  within : l.self.at ≤ l.last;
  hit : HitIn (g.W.Wanted.stops l.wanted) l.fn.self (l.self.at + 1) l.hit;
}

abbrev pub decreases-loop-self : goal.decreases-loop-self
decreases-loop-self g l = l.last - l.self.at
