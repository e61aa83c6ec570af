use Rattle.std.proofs.Common.{◌-◌, ◌≡◌, length}
use Rattle.timeline.specs.Inside.{IsTimeline, line_of}
use Rattle.timeline.proofs.timeline.Timeline.thin.Given as goal

abbrev pub invariant-loop-index : goal.invariant-loop-index
invariant-loop-index l = record {
  timeline : IsTimeline l.self-inside;
  same : line_of l.self-inside ≡ l.fn.self;
}

abbrev pub decreases-loop-index : goal.decreases-loop-index
decreases-loop-index l = length l.self-inside.copies.items - l.index
