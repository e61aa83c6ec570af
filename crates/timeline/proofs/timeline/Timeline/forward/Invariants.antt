use Rattle.std.proofs.Common.{◌-◌, ◌<◌, ◌≡◌, ◌≤◌, false, max, ℕ}
use Rattle.timeline.specs.Line.{Passes, state_at}
use Rattle.timeline.proofs.timeline.Timeline.forward.Given as goal

-- no time so far had a reason to stop
abbrev pub invariant-loop-self : goal.invariant-loop-self
invariant-loop-self g l = record {
  same : l.self ≡ record l.fn.self { at = l.self.at };
  later : l.fn.self.at ≤ l.self.at;
  within : l.self.at ≤ max l.fn.self.at l.until;
  between : (n : ℕ) → l.fn.self.at < n → n < l.self.at
      → Passes (g.W.Wanted.stops l.wanted) (state_at l.fn.self.start l.fn.self.events n);
  here : l.fn.self.at < l.self.at
      → g.W.Wanted.stops l.wanted (state_at l.fn.self.start l.fn.self.events l.self.at) ≡ false;
}

abbrev pub decreases-loop-self : goal.decreases-loop-self
decreases-loop-self g l = l.until - l.self.at
