use Rattle.std.proofs.Common.{length, ◌+◌, ◌-◌, ◌<◌, ◌≤◌, take}
use Rattle.stretches.specs.Stretches.{spelled}
use Rattle.stretches.proofs.find.Given as goal

-- the events up to low come no later, and so do not those up to high
abbrev pub invariant-loop-low : goal.invariant-loop-low
invariant-loop-low l = record {
  ordered : l.low ≤ l.high;
  within : l.high ≤ length l.stretches;
  begun : length (spelled (take l.low l.stretches)) ≤ l.at;
  more : l.high < length l.stretches → l.at < length (spelled (take (l.high + 1) l.stretches));
}

abbrev pub decreases-loop-low : goal.decreases-loop-low
decreases-loop-low l = l.high - l.low
