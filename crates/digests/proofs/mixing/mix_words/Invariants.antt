use Rattle.digests.proofs.Common.{each, word_mixed, ◌≡◌}
use Rattle.digests.proofs.mixing.mix_words.Given as goal

abbrev pub invariant-loop-k : goal.invariant-loop-k
invariant-loop-k l = l.digest ≡ each (word_mixed l.bytes) l.k l.fn.digest
