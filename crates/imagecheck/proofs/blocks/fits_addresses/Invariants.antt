use Rattle.imagecheck.proofs.Common.{ℕ, ◌<◌, FitsSlot}
use Rattle.imagecheck.proofs.blocks.fits_addresses.Given as goal

abbrev pub invariant-loop-k : goal.invariant-loop-k
invariant-loop-k l = (i : ℕ) → i < l.k → FitsSlot l.image l.n i
