-- One of a list, and each of a list.
use Rattle.std.proofs.Common.{[], arith, get_or, inl, inr, length, List, subst, suc, zero, ℕ, ◌++◌, ◌<◌, ◌∷◌, ◌≡◌}
use Rattle.orders.specs.Told.{Each, One}

pub one-more : {X : Type 0} (P : X → Type 0) (xs ys : List X) → One P xs → One P (xs ++ ys)
one-more P [] ys h = absurd h
one-more P (x ∷ xs) ys (inl h) = inl h
one-more P (x ∷ xs) ys (inr h) = inr (one-more P xs ys h)

pub one-last : {X : Type 0} (P : X → Type 0) (xs : List X) (x : X) → P x → One P (xs ++ x ∷ [])
one-last P [] x h = inl h
one-last P (y ∷ xs) x h = inr (one-last P xs x h)

pub one-each : {X : Type 0} (P Q : X → Type 0) → ((x : X) → P x → Q x) → (xs : List X) → One P xs → One Q xs
one-each P Q all [] h = absurd h
one-each P Q all (x ∷ xs) (inl h) = inl (all x h)
one-each P Q all (x ∷ xs) (inr h) = inr (one-each P Q all xs h)

pub each-each : {X : Type 0} (P Q : X → Type 0) → ((x : X) → P x → Q x) → (xs : List X) → Each P xs → Each Q xs
each-each P Q all [] h = tt
each-each P Q all (x ∷ xs) h = (all x h.0, each-each P Q all xs h.1)

pub each-last : {X : Type 0} (P : X → Type 0) (xs : List X) (x : X) → Each P xs → P x → Each P (xs ++ x ∷ [])
each-last P [] x h last = (last, tt)
each-last P (y ∷ xs) x h last = (h.0, each-last P xs x h.1 last)

-- one of a list, with what holds of each
pub both-of : {X : Type 0} (P Q : X → Type 0) (xs : List X) → Each P xs → One Q xs → (x : X) × P x × Q x
both-of P Q [] each h = absurd h
both-of P Q (x ∷ xs) each (inl h) = (x, each.0, h)
both-of P Q (x ∷ xs) each (inr h) = both-of P Q xs each.1 h

pub one-at : {X : Type 0} (P : X → Type 0) (xs : List X) (i : ℕ) (x : X) → i < length xs → x ≡ get_or xs i x → P x
    → One P xs
one-at P [] i x within at h = absurd (omega arith)
one-at P (y ∷ xs) zero x within at h = inl (subst P at h)
one-at P (y ∷ xs) (suc i) x within at h = inr (one-at P xs i x (omega arith) at h)
