-- The search for the beginning of a word.
use Rattle.std.proofs.Common.{◌≡◌, ◌-◌, ◌==◌, Bool, List, arith, false, get_or, refl, suc, true, zero, ℕ}
use Rattle.line_editor.specs.Lines.{word_start, word_step}

-- after the first byte
pub step : (text : List ℕ) (place : ℕ) (seen : Bool) → (place ≡ 0 → ⊥)
    → word_start text place seen
    ≡ word_step (get_or text (place - 1) 32 == 32) seen place (word_start text (place - 1) false)
    (word_start text (place - 1) true)
unfolding word_start
step text zero seen some = absurd (some refl)
step text (suc n) seen some = let one : suc n - 1 ≡ n = omega arith in rw one refl

-- a byte of the word
pub inside : (text : List ℕ) (place : ℕ) (seen blank : Bool) → (place ≡ 0 → ⊥)
    → blank ≡ (get_or text (place - 1) 32 == 32) → blank ≡ false
    → word_start text place seen ≡ word_start text (place - 1) true
inside text place seen blank some is inner = rw (step text place seen some, ← is, inner) refl

-- a blank before the word
pub begins : (text : List ℕ) (place : ℕ) (seen blank : Bool) → (place ≡ 0 → ⊥)
    → blank ≡ (get_or text (place - 1) 32 == 32) → blank ≡ true → seen ≡ true
    → word_start text place seen ≡ place
begins text place seen blank some is front was = rw (step text place seen some, ← is, front, was) refl

-- a blank after the word
pub skips : (text : List ℕ) (place : ℕ) (seen blank : Bool) → (place ≡ 0 → ⊥)
    → blank ≡ (get_or text (place - 1) 32 == 32) → blank ≡ true → seen ≡ false
    → word_start text place seen ≡ word_start text (place - 1) false
skips text place seen blank some is front was = rw (step text place seen some, ← is, front, was) refl
