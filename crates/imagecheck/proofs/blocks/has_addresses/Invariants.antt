use Rattle.imagecheck.proofs.Common.{ℕ, ◌<◌, ◌≤◌, ◌≢◌, kind_in, FitsAddresses}
use Rattle.imagecheck.proofs.blocks.has_addresses.Given as goal

abbrev pub invariant-loop-n : goal.invariant-loop-n
invariant-loop-n l = (m : ℕ) → 1 ≤ m → m < l.n → kind_in l.image m ≢ 0 → FitsAddresses l.image m
