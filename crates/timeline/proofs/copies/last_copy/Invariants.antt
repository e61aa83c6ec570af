use Rattle.std.proofs.Common.{◌<◌, ◌≤◌, HoldsAt, IfSome, length}
use Rattle.timeline.specs.declared.copies.Copied.{Copied}
use Rattle.timeline.proofs.copies.last_copy.Given as goal

abbrev pub invariant-loop-index : goal.invariant-loop-index
invariant-loop-index l = record {
  within : IfSome l.found (λ i. i < length l.copies);
  early : IfSome l.found (HoldsAt (λ (c : Copied). c.at ≤ l.to) l.copies);
}
