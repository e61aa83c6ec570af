-- What is recorded piece by piece.
use Rattle.std.proofs.Common.{List, None, Option, Some, [], ap, append-nil, append_assoc, refl, sym, ◌++◌, ◌∙◌}
use Rattle.events.specs.Records.{Kept, Records}
use Rattle.unixmodel.specs.declared.event.Event.{Event}

-- no events
pub records-none : (k : Option Kept) → Records k k []
records-none None = tt
records-none (Some k) = (sym (append-nil k.events), refl)

-- events, and more
pub records-then : (a b c : Option Kept) (xs ys : List Event) → Records a b xs → Records b c ys
    → Records a c (xs ++ ys)
records-then None None None xs ys first next = tt
records-then None None (Some e) xs ys first next = absurd next
records-then None (Some m) None xs ys first next = absurd first
records-then None (Some m) (Some e) xs ys first next = absurd first
records-then (Some k) None None xs ys first next = first
records-then (Some k) None (Some e) xs ys first next = absurd next
records-then (Some k) (Some m) None xs ys first next = sym first.1 ∙ next
records-then (Some k) (Some m) (Some e) xs ys first next =
    (next.0 ∙ ap (λ es. es ++ ys) first.0 ∙ append_assoc k.events xs ys, next.1 ∙ first.1)
