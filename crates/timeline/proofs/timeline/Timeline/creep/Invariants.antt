use Rattle.std.proofs.Common.{true, ℕ, ◌+◌, ◌<◌, ◌≡◌}
use Rattle.calls.specs.Computing.{computes}
use Rattle.timeline.specs.Line.{Passes, state_at}
use Rattle.timeline.proofs.timeline.Timeline.creep.Given as goal

-- no time so far has a reason to stop, if the next instruction is done
abbrev pub invariant-loop-instruction : goal.invariant-loop-instruction
invariant-loop-instruction g l = record {
  same : l.self ≡ record l.fn.self { at = l.self.at };
  at : l.self.at ≡ l.fn.self.at + l._instruction;
  between : (n : ℕ) → l.fn.self.at < n → n < l.self.at
      → Passes (g.W.Wanted.stops l.wanted) (state_at l.fn.self.start l.fn.self.events n);
  here : l.fn.self.at < l.self.at → computes (state_at l.fn.self.start l.fn.self.events l.self.at) ≡ true
      → Passes (g.W.Wanted.stops l.wanted) (state_at l.fn.self.start l.fn.self.events l.self.at);
}
