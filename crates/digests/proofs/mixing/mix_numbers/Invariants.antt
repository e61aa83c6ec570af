use Rattle.digests.proofs.Common.{mixed, take, ◌≡◌}
use Rattle.digests.proofs.mixing.mix_numbers.Given as goal

abbrev pub invariant-loop-number : goal.invariant-loop-number
invariant-loop-number l = l.digest ≡ mixed l.fn.digest (take l.number-index l.numbers)
