-- A record of events that gets more.
use Rattle.std.proofs.Common.{Err, IfOk, IfSome, List, None, Ok, Option, Result, Some, [], ap, append-nil, append_assoc}
use Rattle.std.proofs.Common.{get_or, is_some, length, refl, subst, sym, take, true, ℕ, ◌+◌, ◌++◌, ◌∙◌, ◌∷◌, ◌<◌, ◌≡◌}
use Rattle.std.proofs.lemmas.List.{take_more}
use Rattle.events.proofs.Recording.{records-then}
use Rattle.events.specs.Records.{Kept, Records, noted}
use Rattle.events.specs.Scripts.{IsScriptOf}
use Rattle.orders.specs.Paths.{events_of, piece_events, pieces_events, steps}
use Rattle.orders.specs.declared.paths.Path.{Path}
use Rattle.orders.specs.declared.paths.Piece.{Piece}
use Rattle.unixmodel.specs.declared.event.Event.{Event}

-- ---- pieces

pub pieces-append : (ps qs : List Piece) → pieces_events (ps ++ qs) ≡ pieces_events ps ++ pieces_events qs
pieces-append [] qs = refl
pieces-append (p ∷ ps) qs =
    ap (λ es. piece_events p ++ es) (pieces-append ps qs)
    ∙ sym (append_assoc (piece_events p) (pieces_events ps) (pieces_events qs))

-- one piece more
pub pieces-next : (ps : List Piece) (i : ℕ) (d : Piece) → i < length ps
    → pieces_events (take (i + 1) ps) ≡ pieces_events (take i ps) ++ piece_events (get_or ps i d)
pieces-next ps i d less =
    ap pieces_events (take_more ps i d less) ∙ pieces-append (take i ps) (get_or ps i d ∷ [])
    ∙ ap (λ es. pieces_events (take i ps) ++ es) (append-nil (piece_events (get_or ps i d)))

-- from a record of nothing on, all pieces and more steps are what a path has
pub path-recorded : (p : Path) (pieces : List Piece) (a b c : Option Kept) → a ≡ Some (noted [])
    → pieces ≡ p.pieces.items → Records a b (pieces_events pieces) → Records b c (steps p.steps)
    → Records (Some (noted [])) c (events_of p)
path-recorded p pieces a b c empty is f g =
    records-then (Some (noted [])) b c (pieces_events p.pieces.items) (steps p.steps)
    (subst (λ e. Records e b (pieces_events p.pieces.items)) empty
    (subst (λ ps. Records a b (pieces_events ps)) is f))
    g

-- one piece more is recorded
pub piece-recorded : (ps : List Piece) (i : ℕ) (d : Piece) (a b c : Option Kept) → i < length ps
    → Records a b (pieces_events (take i ps)) → Records b c (piece_events (get_or ps i d))
    → Records a c (pieces_events (take (i + 1) ps))
piece-recorded ps i d a b c less f g =
    rw (pieces-next ps i d less) (records-then a b c (pieces_events (take i ps)) (piece_events (get_or ps i d)) f g)

-- a text of what is recorded is one of those events
pub text-recorded : {T E : Type 0} (r : Result T E) (bytes_of : T → List ℕ) (c : Option Kept)
    (events : List Event) → Records (Some (noted [])) c events
    → IfOk r (λ text. IfSome c (λ kept. IsScriptOf (bytes_of text) kept.events)) → IfOk r (λ text. is_some c ≡ true)
    → IfOk r (λ text. IsScriptOf (bytes_of text) events)
text-recorded (Err fault) bytes_of c events f h known = tt
text-recorded (Ok text) bytes_of None events f h known = absurd (cc)
text-recorded (Ok text) bytes_of (Some k) events f h known = subst (λ xs. IsScriptOf (bytes_of text) xs) f.0 h
