-- The events of paths with one event more.
use Rattle.std.proofs.lemmas.List.{replicate-append-replicate}
use Rattle.std.proofs.Common.{[], ap, append_assoc, append-nil, List, sym, ℕ, ◌+◌}
use Rattle.std.proofs.Common.{◌++◌, ◌∙◌, ◌∷◌, ◌≡◌}
use Rattle.orders.specs.declared.paths.Piece.{Piece}
use Rattle.orders.specs.Paths.{event_of, piece_events, pieces_events, steps}
use Rattle.unixmodel.specs.declared.event.Event.{Event}
use Rattle.unixmodel.specs.declared.event.Event.TheVariants.{Step}

-- steps, and more of them
pub steps-more : (m n : ℕ) → steps (m + n) ≡ steps m ++ steps n
steps-more m n = sym (replicate-append-replicate m n Step)

-- a path with more steps
pub stepped : (es : List Event) (m n : ℕ) → es ++ steps (m + n) ≡ (es ++ steps m) ++ steps n
stepped es m n = ap (λ fs. es ++ fs) (steps-more m n) ∙ sym (append_assoc es (steps m) (steps n))

pieces-more : (ps : List Piece) (p : Piece) → pieces_events (ps ++ p ∷ []) ≡ pieces_events ps ++ piece_events p
pieces-more [] p = append-nil (piece_events p)
pieces-more (q ∷ ps) p =
    ap (λ es. piece_events q ++ es) (pieces-more ps p)
    ∙ sym (append_assoc (piece_events q) (pieces_events ps) (piece_events p))

-- a path with one interrupt more
pub interrupted : (ps : List Piece) (p : Piece)
    → pieces_events (ps ++ p ∷ []) ++ steps 0 ≡ (pieces_events ps ++ steps p.steps) ++ event_of p.interrupt ∷ []
interrupted ps p =
    append-nil (pieces_events (ps ++ p ∷ [])) ∙ pieces-more ps p
    ∙ sym (append_assoc (pieces_events ps) (steps p.steps) (event_of p.interrupt ∷ []))
