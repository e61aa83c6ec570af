use Rattle.std.proofs.Common.{◌≡◌, ◌<◌, ℕ, [], bytes_eq, false, slice_index_or}
use Rattle.unixmodel.specs.Names as the
use Rattle.asmtext.proofs.names.register_numbered.Given as goal

abbrev pub invariant-loop-r : goal.invariant-loop-r
invariant-loop-r l = (k : ℕ) → k < l.r → bytes_eq (slice_index_or the.register_numbers k []) l.name ≡ false
