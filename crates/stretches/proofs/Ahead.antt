-- The next events, where they are known to be the same.
use Rattle.std.proofs.Common.{ap, arith, drop, length, List, replicate, sym, take, take-append-drop, ℕ}
use Rattle.std.proofs.Common.{◌+◌, ◌++◌, ◌∙◌, ◌≡◌, ◌≤◌}
use Rattle.std.proofs.Math.Seq.{take-append-add}
use Rattle.std.proofs.lemmas.List.{length-replicate, length-take-le, take-append-le, take-replicate}
use Rattle.stretches.specs.Stretches.{IsAhead}
use Rattle.unixmodel.specs.declared.event.Event.{Event}

pub ahead-take : (events : List Event) (at k times : ℕ) (e : Event) → IsAhead events at (e, times) → k ≤ times
    → take (at + k) events ≡ take at events ++ replicate k e
ahead-take events at k times e ahead few =
    let front : length (take at events) ≡ at = let w = ahead.within in length-take-le at events (omega (arith, w)) in
    ap (take (at + k)) (sym (take-append-drop at events))
    ∙ ap (λ n. take (n + k) (take at events ++ drop at events)) (sym front)
    ∙ take-append-add (take at events) (drop at events) k
    ∙ ap (λ es. take at events ++ es)
    (ap (take k) ahead.next
    ∙ take-append-le k (replicate times e) (drop (at + times) events) (rw (length-replicate times e) few)
    ∙ take-replicate k times e few)
