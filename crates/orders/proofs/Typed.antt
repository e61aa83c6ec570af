-- What a path types, and what is left to type after it.
use Rattle.std.proofs.Common.{[], ap, arith, drop, drop-cons, get_or, length, length-drop, List, refl}
use Rattle.std.proofs.Common.{suc, sym, zero, ℕ, ◌+◌, ◌++◌, ◌<◌, ◌∙◌, ◌∷◌, ◌≡◌, ◌≤◌}
use Rattle.std.proofs.lemmas.List.{drop-drop, drop_all}
use Rattle.std.proofs.lemmas.List.Sums.{sum_by-cons}
use Rattle.std.specs.Prelude.{cond}
use Rattle.orders.specs.declared.paths.Interrupt.{Interrupt}
use Rattle.orders.specs.declared.paths.Interrupt.TheVariants as interrupt
use Rattle.orders.specs.declared.paths.Path.{Path}
use Rattle.orders.specs.declared.paths.Piece.{Piece}
use Rattle.orders.specs.Free.{keys_after, keys_left}
use Rattle.orders.specs.Paths.{event_of, events_of, is_key, piece_events, pieces_events, steps, typed_in}
use Rattle.unixmodel.specs.declared.event.Event.{Event}

left-append : (keys : List ℕ) (es fs : List Event) → keys_left keys (es ++ fs) ≡ keys_left (keys_left keys es) fs
left-append keys [] fs = refl
left-append keys (e ∷ es) fs = left-append (keys_after keys e) es fs

left-steps : (keys : List ℕ) (n : ℕ) → keys_left keys (steps n) ≡ keys
left-steps keys zero = refl
left-steps keys (suc n) = left-steps keys n

left-event : (keys : List ℕ) (i : Interrupt) → keys_after keys (event_of i) ≡ drop (cond (is_key i) 1 0) keys
left-event keys interrupt.Tick = refl
left-event keys (interrupt.Key b) = refl

left-piece : (keys : List ℕ) (p : Piece) → keys_left keys (piece_events p) ≡ drop (cond (is_key p.interrupt) 1 0) keys
left-piece keys p =
    left-append keys (steps p.steps) (event_of p.interrupt ∷ [])
    ∙ ap (λ ks. keys_after ks (event_of p.interrupt)) (left-steps keys p.steps)
    ∙ left-event keys p.interrupt

typed-more : (p : Piece) (ps : List Piece) → typed_in (p ∷ ps) ≡ cond (is_key p.interrupt) 1 0 + typed_in ps
typed-more p ps = sum_by-cons (λ (q : Piece). cond (is_key q.interrupt) 1 0) p ps

left-pieces : (keys : List ℕ) (ps : List Piece) → keys_left keys (pieces_events ps) ≡ drop (typed_in ps) keys
left-pieces keys [] = refl
left-pieces keys (p ∷ ps) =
    left-append keys (piece_events p) (pieces_events ps)
    ∙ ap (λ ks. keys_left ks (pieces_events ps)) (left-piece keys p)
    ∙ left-pieces (drop (cond (is_key p.interrupt) 1 0) keys) ps
    ∙ drop-drop (typed_in ps) (cond (is_key p.interrupt) 1 0) keys
    ∙ ap (λ n. drop n keys) (sym (typed-more p ps))

-- what is left after a path
pub left-of : (keys : List ℕ) (path : Path) → keys_left keys (events_of path) ≡ drop (typed_in path.pieces.items) keys
left-of keys path =
    left-append keys (pieces_events path.pieces.items) (steps path.steps)
    ∙ left-steps (keys_left keys (pieces_events path.pieces.items)) path.steps
    ∙ left-pieces keys path.pieces.items

-- what comes next, where something does
pub next-of : (keys : List ℕ) (path : Path) (b : ℕ) → typed_in path.pieces.items < length keys
    → b ≡ get_or keys (typed_in path.pieces.items) b
    → keys_left keys (events_of path) ≡ b ∷ drop (suc (typed_in path.pieces.items)) keys
next-of keys path b within at =
    left-of keys path ∙ drop-cons keys (typed_in path.pieces.items) b within
    ∙ ap (λ k. k ∷ drop (suc (typed_in path.pieces.items)) keys) (sym at)

-- nothing is left
pub none-left : (keys : List ℕ) (path : Path) → length keys ≤ typed_in path.pieces.items
    → keys_left keys (events_of path) ≡ []
none-left keys path all = left-of keys path ∙ drop_all (typed_in path.pieces.items) keys all

pub all-typed : (keys : List ℕ) (path : Path) → keys_left keys (events_of path) ≡ []
    → length keys ≤ typed_in path.pieces.items
all-typed keys path none =
    let same : length (drop (typed_in path.pieces.items) keys) ≡ 0 = ap length (sym (left-of keys path) ∙ none) in
    omega (arith, length-drop (typed_in path.pieces.items) keys)
