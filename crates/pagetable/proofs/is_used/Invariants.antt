use Rattle.pagetable.proofs.Common.{◌≡◌, ℕ, ◌<◌, entry_of}
use Rattle.pagetable.proofs.is_used.Given as goal

abbrev pub invariant-loop-i : goal.invariant-loop-i
invariant-loop-i l = (k : ℕ) → k < l.i → entry_of l.ram l.table.0 k ≡ 0
