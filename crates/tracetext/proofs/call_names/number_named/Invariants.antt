use Rattle.std.proofs.Common.{◌≡◌, ◌<◌, ℕ, [], bytes_eq, false, slice_index_or}
use Rattle.tracetext.specs.Names.{names}
use Rattle.tracetext.proofs.call_names.number_named.Given as goal

abbrev pub invariant-loop-index : goal.invariant-loop-index
invariant-loop-index l = (k : ℕ) → k < l.index → bytes_eq (slice_index_or names k []) l.name ≡ false
