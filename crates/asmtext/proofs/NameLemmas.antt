-- Lemmas on names that are looked for.
use Rattle.asmtext.proofs.Common.{◌≡◌, ◌<◌, ◌∙◌, ℕ, List, None, Some, [], ap, arith, bytes_eq, codes, ◌∷◌, cond, false}
use Rattle.asmtext.proofs.Common.{length, not, refl, slice_index_or, true, nat_lt, position_or_len, nat_tests}
use Rattle.asmtext.proofs.Common.{prefix_len_is, register_names, register_numbers}
use Rattle.std.specs.Fmt.{digits}
use Rattle.unixmodel.specs.Operands.{place_among}

pub place_is : (names : List (List ℕ)) (name : List ℕ) (r : ℕ) → r < length names
    → ((k : ℕ) → k < r → bytes_eq (slice_index_or names k []) name ≡ false)
    → bytes_eq (slice_index_or names r []) name ≡ true → place_among names name ≡ Some r
place_is names name r h before here =
    let e : position_or_len (λ other. bytes_eq other name) names ≡ r =
    prefix_len_is (λ other. not (bytes_eq other name)) names r [] (omega arith) (λ k b. ap not (before k b))
    (λ _. ap not here) in
    ap (λ n. cond (nat_lt n (length names)) (Some n) None) e ∙ grind (arith, nat_tests)

pub place_none : (names : List (List ℕ)) (name : List ℕ)
    → ((k : ℕ) → k < length names → bytes_eq (slice_index_or names k []) name ≡ false) → place_among names name ≡ None
place_none names name before =
    let e : position_or_len (λ other. bytes_eq other name) names ≡ length names =
    prefix_len_is (λ other. not (bytes_eq other name)) names (length names) [] (omega arith)
    (λ k b. ap not (before k b)) (λ h. absurd (omega arith)) in
    ap (λ n. cond (nat_lt n (length names)) (Some n) None) e ∙ grind (arith, nat_tests)

pub lengths : (length register_names ≡ 32) × (length register_numbers ≡ 32)
unfolding register_names register_numbers
lengths = (refl, refl)

pub spelled : register_numbers ≡ codes "x0" ∷ codes "x1" ∷ codes "x2" ∷ codes "x3" ∷ codes "x4" ∷ codes "x5"
    ∷ codes "x6" ∷ codes "x7" ∷ codes "x8" ∷ codes "x9" ∷ codes "x10" ∷ codes "x11" ∷ codes "x12" ∷ codes "x13"
    ∷ codes "x14" ∷ codes "x15" ∷ codes "x16" ∷ codes "x17" ∷ codes "x18" ∷ codes "x19" ∷ codes "x20" ∷ codes "x21"
    ∷ codes "x22" ∷ codes "x23" ∷ codes "x24" ∷ codes "x25" ∷ codes "x26" ∷ codes "x27" ∷ codes "x28" ∷ codes "x29"
    ∷ codes "x30" ∷ codes "x31" ∷ []
unfolding register_numbers digits
spelled = refl
