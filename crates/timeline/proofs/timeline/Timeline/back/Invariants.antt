use Rattle.std.proofs.Common.{◌<◌, ◌≡◌, ◌≤◌, ℕ}
use Rattle.timeline.specs.Line.{Passes, state_at}
use Rattle.timeline.proofs.timeline.Timeline.back.Given as goal

-- no time from the end of the window on has a reason to stop
abbrev pub invariant-loop-end : goal.invariant-loop-end
invariant-loop-end g l = record {
  same : l.self ≡ record l.fn.self { at = l.self.at };
  early : l.end ≤ l.fn.self.at;
  passed : (n : ℕ) → l.end ≤ n → n < l.fn.self.at
      → Passes (g.W.Wanted.stops l.wanted) (state_at l.fn.self.start l.fn.self.events n);
}

abbrev pub decreases-loop-end : goal.decreases-loop-end
decreases-loop-end g l = l.end
