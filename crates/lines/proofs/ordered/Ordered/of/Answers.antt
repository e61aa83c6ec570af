use Rattle.std.proofs.Common.{rules}
use Rattle.std.proofs.lemmas.List.Sorted.{All-permutation, IsNonDecreasingBy-from_sort_by_key}
use Rattle.lines.specs.Covering.{Rises}
use Rattle.lines.specs.declared.rows.Sequence.{Sequence}
use Rattle.lines.proofs.ordered.Ordered.of.Goals as goal

pub invariant_of-result : goal.invariant_of-result
invariant_of-result c = record {
  beginning = IsNonDecreasingBy-from_sort_by_key (λ (s : Sequence). s.start) _ c.in_ok-sort_by_key.ensures.sorted
      (λ a r q k. search rules);
  rising = All-permutation (Rises c.args.rows.items) _ _ c.in_ok-sort_by_key.ensures.permutation
      (rw c.deref.ensures.value at c.in_ok-sequences.ensures);
}
