use Rattle.digests.proofs.Common.{descriptors_mixed, take, ◌≡◌}
use Rattle.digests.proofs.processes.mix_descriptors.Given as goal

abbrev pub invariant-loop-descriptor : goal.invariant-loop-descriptor
invariant-loop-descriptor l = l.digest ≡ descriptors_mixed l.fn.digest (take l.descriptor-index l.descriptors)
