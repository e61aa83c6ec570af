use Rattle.digests.proofs.Common.{each, place_mixed, process_at, state_of, ◌≡◌}
use Rattle.digests.specs.Digest.{by_clock}
use Rattle.digests.proofs.processes.mix_places.Given as goal

abbrev pub invariant-loop-at : goal.invariant-loop-at
invariant-loop-at g l =
    l.digest ≡ each (λ d i. place_mixed d (process_at (by_clock l.clock (state_of l.kernel)) i)) l.at l.fn.digest
