-- Whether a text is somewhere in a line, from what a search for it gives.
use Rattle.std.proofs.Common.{◌≡◌, ◌≢◌, ◌≤◌, ◌++◌, ◌∷◌, ◌||◌, Bool, List, None, [], arith, drop, false, length, nat_eq}
use Rattle.std.proofs.Common.{refl, sym, true, ℕ, zero, suc}
use Rattle.std.specs.Bool.{MatchBool}
use Rattle.std.specs.List.{starts_with}
use Rattle.std.specs.Str.Pattern.{FindsText, HasMatch}
use Rattle.std.proofs.lemmas.Bool.Decides.{Decides-eqb}
use Rattle.std.proofs.lemmas.Slice.Eq.{starts_is}
use Rattle.explanations.specs.Meanings.{occurs}

starts : (line text rest : List ℕ) → line ≡ text ++ rest → starts_with nat_eq line text ≡ true
starts line text rest e = (starts_is Decides-eqb line text _ refl).1 rest e

no-start : (line text : List ℕ) → ((rest : List ℕ) → line ≢ text ++ rest) → starts_with nat_eq line text ≡ false
no-start line text none = go (starts_with nat_eq line text) refl
  where
    go : (b : Bool) → starts_with nat_eq line text ≡ b → b ≡ false
    go true e = absurd (none _ ((starts_is Decides-eqb line text _ refl).0 e))
    go false e = refl

or-right : (a b : Bool) → b ≡ true → (a || b) ≡ true
or-right true b h = refl
or-right false b h = h

occurs-at : (text rest line : List ℕ) (i : ℕ) → i ≤ length line → drop i line ≡ text ++ rest → occurs text line ≡ true
unfolding occurs
occurs-at text rest [] zero le e = starts [] text rest e
occurs-at text rest [] (suc i) le e = absurd (omega (arith, le))
occurs-at text rest (c ∷ line) zero le e = rw (starts (c ∷ line) text rest e) refl
occurs-at text rest (c ∷ line) (suc i) le e =
    or-right _ _ (occurs-at text rest line i (omega (arith, le)) e)

lacks : (text line : List ℕ) → ((i : ℕ) → i ≤ length line → (rest : List ℕ) → drop i line ≢ text ++ rest)
    → occurs text line ≡ false
unfolding occurs
lacks text [] none = no-start [] text (λ rest. none 0 (omega arith) rest)
lacks text (c ∷ line) none = rw (no-start (c ∷ line) text (λ rest. none 0 (omega arith) rest))
    (lacks text line (λ i le rest. none (suc i) (omega (arith, le)) rest))

-- the answer of a search says whether the text is there
pub is-occurs : (text line : List ℕ) (result : Bool)
    → MatchBool result (HasMatch (FindsText text) line) (FindsText text line None) → result ≡ occurs text line
is-occurs text line true h = sym (occurs-at text (drop h.1 line) line h.0 (omega (arith, h.3, h.4)) h.2.1.split)
is-occurs text line false h = sym (lacks text line h)
