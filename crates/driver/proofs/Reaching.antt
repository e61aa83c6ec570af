-- Whether what is waited for has come.
use Rattle.std.proofs.Common.{false, inr, List, None, Option, refl, Some, sym, true, ℕ, ◌≡◌}
use Rattle.std.specs.Prelude.{Bool, IfSome, MatchBool, ◌&&◌, ◌⊎◌}
use Rattle.driver.specs.Goals.{EndsWith}

match-known : (shown : Option (List ℕ)) (b : Bool) (P Q : List ℕ → Type 0)
    → IfSome shown (λ bytes. MatchBool b (P bytes) (Q bytes)) → MatchBool b (IfSome shown P) (IfSome shown Q)
match-known None true P Q h = tt
match-known None false P Q h = tt
match-known (Some bytes) true P Q h = h
match-known (Some bytes) false P Q h = h

pub match-shown : (shown : Option (List ℕ)) (text items : List ℕ) (b : Bool) → text ≡ items
    → IfSome shown (λ all. MatchBool b (EndsWith text all) (¬ EndsWith text all))
    → MatchBool b (IfSome shown (EndsWith items)) (IfSome shown (λ all. ¬ EndsWith items all))
match-shown shown text items b same h =
    rw (← same) (match-known shown b (EndsWith text) (λ all. ¬ EndsWith text all) h)

pub match-test : (b t : Bool) → b ≡ t → MatchBool b (t ≡ true) (t ≡ false)
match-test true t is = sym is
match-test false t is = sym is

pub match-both : (b : Bool) (P Q : Type 0) → (b ≡ true → P) → (b ≡ false → Q) → MatchBool b P Q
match-both true P Q there elsewhere = there refl
match-both false P Q there elsewhere = elsewhere refl

pub match-yes : (b : Bool) (P Q : Type 0) → MatchBool b P Q → b ≡ true → P
match-yes true P Q h is = h
match-yes false P Q h is = absurd cc

pub match-no : (b : Bool) (P Q : Type 0) → MatchBool b P Q → b ≡ false → Q
match-no true P Q h is = absurd cc
match-no false P Q h is = h

-- it has not come, and maybe can't
pub match-stuck : (b off idle : Bool) (P Q Up : Type 0) → Q → Up → b ≡ (off && idle)
    → MatchBool b (P ⊎ ((off ≡ true) × (idle ≡ true))) (Q × (off ≡ true → idle ≡ false) × Up)
match-stuck true true true P Q Up q up is = inr (refl, refl)
match-stuck false true true P Q Up q up is = absurd cc
match-stuck true true false P Q Up q up is = absurd cc
match-stuck false true false P Q Up q up is = (q, (λ off. refl), up)
match-stuck true false idle P Q Up q up is = absurd cc
match-stuck false false idle P Q Up q up is = (q, (λ off. absurd cc), up)
