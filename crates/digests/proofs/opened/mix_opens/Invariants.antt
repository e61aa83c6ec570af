use Rattle.digests.proofs.Common.{each, open_mixed, slot, state_of, ◌≡◌}
use Rattle.digests.proofs.opened.mix_opens.Given as goal

abbrev pub invariant-loop-id : goal.invariant-loop-id
invariant-loop-id g l = l.digest ≡ each (λ d n. open_mixed d (slot (state_of l.kernel).opens n)) l.id l.fn.digest
