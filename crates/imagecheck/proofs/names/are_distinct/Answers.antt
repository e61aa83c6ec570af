use Rattle.imagecheck.proofs.Common.{rules, nat_lt, answers_always}
use Rattle.imagecheck.proofs.Entering.{distinct-sorted}
use Rattle.imagecheck.proofs.names.are_distinct.Goals as goal

pub returns : goal.returns
returns c =
    distinct-sorted _ _ _ c.sort_unstable.ensures.permutation c.sort_unstable.ensures.sorted
    (c.is_sorted_by.ensures.cases nat_lt (answers_always _ _ _ (λ a r q k. search rules)))
