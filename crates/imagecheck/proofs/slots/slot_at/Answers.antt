use Rattle.imagecheck.proofs.Common.{arith, nat_tests, index_end}
use Rattle.imagecheck.proofs.slots.slot_at.Goals as goal

pub overflow_add-result-2 : goal.overflow_add-result-2
unfolding index_end
overflow_add-result-2 c = let h = c.requires.within in let e = c.data_end-end.ensures.told in let m =
    c.single-2.ensures.most in grind (arith, nat_tests)
