use Rattle.digests.proofs.Common.{mixed, take, ◌≡◌}
use Rattle.digests.proofs.mixing.mix_each.Given as goal

abbrev pub invariant-loop-byte : goal.invariant-loop-byte
invariant-loop-byte l = l.digest ≡ mixed l.fn.digest (take l.byte-index l.bytes)
