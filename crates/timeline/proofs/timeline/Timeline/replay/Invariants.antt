use Rattle.std.proofs.Common.{◌-◌, ◌≡◌, ◌≤◌}
use Rattle.timeline.specs.Inside.{IsTimeline, line_of}
use Rattle.timeline.proofs.timeline.Timeline.replay.Given as goal

-- the machine is at a time that is not after the one that it goes to
abbrev pub invariant-loop-self : goal.invariant-loop-self
invariant-loop-self l = record {
  timeline : IsTimeline l.self-inside;
  same : line_of l.self-inside ≡ record l.fn.self { at = l.self-inside.at };
  early : l.self-inside.at ≤ l.to;
}

abbrev pub decreases-loop-self : goal.decreases-loop-self
decreases-loop-self l = l.to - l.self-inside.at
