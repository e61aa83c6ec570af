use Rattle.digests.proofs.Common.{each, process_at, state_of, ◌≡◌}
use Rattle.digests.specs.Digest.{holder_mixed}
use Rattle.digests.proofs.named.mix_holders.Given as goal

abbrev pub invariant-loop-at : goal.invariant-loop-at
invariant-loop-at g l = l.digest
    ≡ each (λ d i. holder_mixed (state_of l.kernel) d (process_at (state_of l.kernel) i)) l.at l.fn.digest
