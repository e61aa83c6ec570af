use Rattle.std.proofs.Common.{ℕ, ◌<◌, ◌≡◌}
use Rattle.orders.specs.Ends.{saved_as}
use Rattle.unixmodel.specs.Files.{slot}
use Rattle.explore.proofs.saved.saves_same.Given as goal

abbrev pub invariant-loop-number : goal.invariant-loop-number
invariant-loop-number g l = record {
  stays : l.one.state ≡ l.fn.one.state;
  other_stays : l.other.state ≡ l.fn.other.state;
  same : (n : ℕ) → n < l.number → saved_as (slot l.fn.one.state.files n) ≡ saved_as (slot l.fn.other.state.files n);
}
