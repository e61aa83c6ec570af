use Rattle.std.proofs.Common.{rules}
use Rattle.std.proofs.lemmas.List.Sorted.{IsNonDecreasingBy-from_sort_by_key}
use Rattle.symbols.specs.declared.entry.Symbol.{Symbol}
use Rattle.symbols.proofs.nearest.Ordered.of.Goals as goal

pub invariant_of-result : goal.invariant_of-result
invariant_of-result c = record {
  rising = IsNonDecreasingBy-from_sort_by_key (λ (s : Symbol). s.address) _ c.in_ok-sort_by_key.ensures.sorted
      (λ a r q k. search rules);
}
