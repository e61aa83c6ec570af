use Rattle.digests.proofs.Common.{each, pipe_mixed, slot, state_of, ◌≡◌}
use Rattle.digests.proofs.opened.mix_pipes.Given as goal

abbrev pub invariant-loop-q : goal.invariant-loop-q
invariant-loop-q g l = l.digest ≡ each (λ d n. pipe_mixed d (slot (state_of l.kernel).pipes n)) l.q l.fn.digest
