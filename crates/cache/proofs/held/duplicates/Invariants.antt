use Rattle.cache.proofs.Flushing.{IsHalf}
use Rattle.cache.proofs.held.duplicates.Given as goal

abbrev pub invariant-block : goal.invariant-block
invariant-block l = IsHalf l.held l.copy l.n-iterator.iter
