use Rattle.std.proofs.Common.{◌≡◌, ◌+◌, ◌*◌, ◌<◌, ℕ, Some, length, slice_index}
use Rattle.events.specs.Fields.{hex_pair}
use Rattle.events.proofs.script.fields.bytes_of.Given as goal

abbrev pub invariant-loop-index : goal.invariant-loop-index
invariant-loop-index l = record {
  pairs : length l.bytes.items ≡ l.index;
  each : (k : ℕ) → k < l.index
      → hex_pair (slice_index l.digits (2 * k)) (slice_index l.digits (2 * k + 1)) ≡ Some (slice_index l.bytes.items k);
}
