-- The lines and words of a text, from what std finds in it.
use Rattle.std.proofs.Common.{◌≡◌, ◌∙◌, ◌+◌, ◌-◌, ◌<◌, ◌++◌, ◌∷◌, [], List, None, Option, Some, ap, arith, drop, inr}
use Rattle.std.proofs.Common.{refl, subst, suc, sym, take, zero, ℕ}
use Rattle.std.specs.Prelude.{◌==◌}
use Rattle.std.specs.Char.{encode_utf8}
use Rattle.std.specs.List.{before_first}
use Rattle.std.specs.Str.{NoCharPasses}
use Rattle.std.specs.Str.Pattern.{RFindsChar, SplitsAroundMatch}
use Rattle.std.proofs.lemmas.List.{take-append-drop}
use Rattle.std.proofs.lemmas.Str.{encode_ascii}
use Rattle.explanations.specs.Words.{IsLastWord, after_line, line_after, line_of}

pub last-word : (line front word : List ℕ) → SplitsAroundMatch (RFindsChar 32) line front word → IsLastWord line word
last-word line front word h =
    let blank : encode_utf8 32 ≡ 32 ∷ [] = encode_ascii 32 (omega arith) in
    let cut : drop h.0 line ≡ 32 ∷ drop h.1 line = h.2.1.split ∙ ap (λ c. c ++ drop h.1 line) blank in
    record {
      plain = subst (λ b. NoCharPasses (λ c. c == 32) b) (sym h.4) h.2.0;
      last = inr (
        take h.0 line,
        sym (take-append-drop h.0 line)
            ∙ ap (λ b. take h.0 line ++ b) (cut ∙ ap (λ b. 32 ∷ b) (sym h.4)),
      );
    }

-- ---- the line of a number, after so many others

pub numbered : (number before : ℕ) (text : List ℕ) → before + 1 ≡ number
    → line_of number text ≡ line_after before (Some text)
numbered zero before text e = absurd (omega (arith, e))
numbered (suc n) before text e = let same : n ≡ before = omega (arith, e) in ap (λ m. line_after m (Some text)) same

next-line : (left : ℕ) (rest : List ℕ) → line_after (suc left) (Some rest) ≡ line_after left (after_line rest)
unfolding line_after
next-line left rest = refl

no-line : (left : ℕ) → line_after left None ≡ None
unfolding line_after
no-line left = refl

first : (text : List ℕ) → line_after 0 (Some text) ≡ Some (before_first (λ c. c == 10) text)
unfolding line_after
first text = refl

module _ (before line : ℕ) (rest : List ℕ) (wanted : Option (List ℕ))
    (is : line_after (before - line) (Some rest) ≡ wanted) where
  passed : line < before → line_after (before - (line + 1)) (after_line rest) ≡ wanted
  passed within =
      let left : before - line ≡ suc (before - (line + 1)) = omega (arith, within) in
      sym (next-line (before - (line + 1)) rest) ∙ ap (λ n. line_after n (Some rest)) (sym left) ∙ is

  pub goes-on : (next : List ℕ) → line < before → after_line rest ≡ Some next
      → line_after (before - (line + 1)) (Some next) ≡ wanted
  goes-on next within some = ap (λ o. line_after (before - (line + 1)) o) (sym some) ∙ passed within

  pub ends : line < before → after_line rest ≡ None → None ≡ wanted
  ends within none =
      sym (no-line (before - (line + 1))) ∙ ap (λ o. line_after (before - (line + 1)) o) (sym none) ∙ passed within

  pub found : line ≡ before → Some (before_first (λ c. c == 10) rest) ≡ wanted
  found last =
      let left : before - line ≡ 0 = omega (arith, last) in
      sym (first rest) ∙ ap (λ n. line_after n (Some rest)) (sym left) ∙ is
