use Rattle.digests.proofs.Common.{state_of, take, ◌≡◌}
use Rattle.digests.specs.Digest.{names_mixed}
use Rattle.digests.proofs.named.mix_names.Given as goal

abbrev pub invariant-loop-descriptor : goal.invariant-loop-descriptor
invariant-loop-descriptor g l =
    l.digest ≡ names_mixed (state_of l.kernel) l.fn.digest (take l.descriptor-index l.descriptors)
