-- Lemmas on names of calls.
use Rattle.std.proofs.Common.{◌≡◌, ◌<◌, ◌∙◌, ℕ, Bool, Bor, List, None, Some, Option, [], ap, arith, bytes_eq, ◌∷◌}
use Rattle.std.proofs.Common.{◌++◌, codes, cond, false, get_or, inl, inr, is_none, length, map, not, nat_lt}
use Rattle.std.proofs.Common.{refl, set, slice_index_or, suc, sym, take, true, zero, ◌||◌}
use Rattle.std.proofs.lemmas.Bool.Decides.{eqb_tells, nat_tests}
use Rattle.std.proofs.lemmas.List.{get_or-set_other, get_or-set_same}
use Rattle.std.proofs.lemmas.List.Sums.{prefix_len_is}
use Rattle.std.specs.List.{position_or_len}
use Rattle.tracetext.specs.Names.{first_unknown, is_among, is_number, names, number_named}
use Rattle.unixmodel.specs.Operands.{place_among}

-- ---- one name

pub spelled : names ≡ codes "fork" ∷ codes "exit" ∷ codes "wait" ∷ codes "pipe" ∷ codes "read" ∷ codes "kill"
    ∷ codes "exec"
    ∷ codes "fstat" ∷ codes "chdir" ∷ codes "dup" ∷ codes "getpid" ∷ codes "sbrk" ∷ codes "sleep" ∷ codes "uptime"
    ∷ codes "open" ∷ codes "write" ∷ codes "mknod" ∷ codes "unlink" ∷ codes "link" ∷ codes "mkdir" ∷ codes "close"
    ∷ []
unfolding names
spelled = refl

pub many : length names ≡ 21
unfolding names
many = refl

pub place_is : (names : List (List ℕ)) (name : List ℕ) (r : ℕ) → r < length names
    → ((k : ℕ) → k < r → bytes_eq (slice_index_or names k []) name ≡ false)
    → bytes_eq (slice_index_or names r []) name ≡ true → place_among names name ≡ Some r
place_is names name r h before here =
    let e : position_or_len (λ other. bytes_eq other name) names ≡ r =
    prefix_len_is (λ other. not (bytes_eq other name)) names r [] (omega arith) (λ k b. ap not (before k b))
    (λ _. ap not here) in
    ap (λ n. cond (nat_lt n (length names)) (Some n) None) e ∙ grind (arith, nat_tests)

pub place_none : (names : List (List ℕ)) (name : List ℕ)
    → ((k : ℕ) → k < length names → bytes_eq (slice_index_or names k []) name ≡ false) → place_among names name ≡ None
place_none names name before =
    let e : position_or_len (λ other. bytes_eq other name) names ≡ length names =
    prefix_len_is (λ other. not (bytes_eq other name)) names (length names) [] (omega arith)
    (λ k b. ap not (before k b)) (λ h. absurd (omega arith)) in
    ap (λ n. cond (nat_lt n (length names)) (Some n) None) e ∙ grind (arith, nat_tests)

-- ---- many names

pub read_more : (xs : List (Bor (List ℕ))) (name : Bor (List ℕ))
    → map (λ (x : Bor (List ℕ)). x.now) (xs ++ name ∷ []) ≡ map (λ (x : Bor (List ℕ)). x.now) xs ++ name.now ∷ []
read_more [] name = refl
read_more (x ∷ xs) name = ap (λ ys. x.now ∷ ys) (read_more xs name)

after-known : (number : Option ℕ) (name : List ℕ) (rest more : Option (List ℕ))
    → cond (is_none number) (Some name) rest ≡ None → (rest ≡ None → more ≡ None)
    → cond (is_none number) (Some name) more ≡ None
after-known None name rest more h then = absurd (cc)
after-known (Some n) name rest more h then = then h

pub known_more : (xs : List (List ℕ)) (name : List ℕ) (number : ℕ) → first_unknown xs ≡ None
    → number_named name ≡ Some number → first_unknown (xs ++ name ∷ []) ≡ None
known_more [] name number known e = ap (λ n. cond (is_none n) (Some name) None) e
known_more (x ∷ xs) name number known e =
    after-known (number_named x) x (first_unknown xs) (first_unknown (xs ++ name ∷ [])) known
    (λ h. known_more xs name number h e)

last-of : (b : Bool) → (b || false) ≡ (false || b)
last-of true = refl
last-of false = refl

joined : (a b c : Bool) → (a || (b || c)) ≡ ((a || b) || c)
joined true b c = refl
joined false b c = refl

pub among_more : (n : ℕ) (xs : List (List ℕ)) (name : List ℕ)
    → is_among n (xs ++ name ∷ []) ≡ (is_among n xs || is_number n (number_named name))
among_more n [] name = last-of (is_number n (number_named name))
among_more n (x ∷ xs) name =
    ap (λ b. is_number n (number_named x) || b) (among_more n xs name)
    ∙ joined (is_number n (number_named x)) (is_among n xs) (is_number n (number_named name))

or-true : (b : Bool) → true ≡ (b || true)
or-true true = refl
or-true false = refl

or-false : (b : Bool) → b ≡ (b || false)
or-false true = refl
or-false false = refl

-- the set gets the number of one name more
pub has_more : (has : List Bool) (xs : List (List ℕ)) (name : List ℕ) (n m : ℕ) → m < length has
    → number_named name ≡ Some m → get_or has n false ≡ is_among n xs
    → get_or (set has m true) n false ≡ is_among n (xs ++ name ∷ [])
has_more has xs name n m h e so_far =
    let all : is_among n (xs ++ name ∷ []) ≡ (is_among n xs || is_number n (Some m)) =
    among_more n xs name ∙ ap (λ number. is_among n xs || is_number n number) e in
    elim (eqb_tells m n) [
      | inl here ↦ (
          let new : get_or (set has m true) n false ≡ true = rw (← here.1) (get_or-set_same has m true false h) in
          new ∙ or-true (is_among n xs) ∙ sym (all ∙ ap (λ b. is_among n xs || b) here.0))
      | inr other ↦ (
          get_or-set_other has m n true false (λ same. other.1 (sym same)) ∙ so_far ∙ or-false (is_among n xs)
          ∙ sym (all ∙ ap (λ b. is_among n xs || b) other.0))
    ]

after-first : (number : Option ℕ) (x name : List ℕ) (rest all : Option (List ℕ))
    → cond (is_none number) (Some x) rest ≡ None → (rest ≡ None → all ≡ Some name)
    → cond (is_none number) (Some x) all ≡ Some name
after-first None x name rest all h then = absurd (cc)
after-first (Some n) x name rest all h then = then h

-- the first of all names that no call has, where it comes after those that were read
pub unknown_at : (all : List (List ℕ)) (n : ℕ) (name : List ℕ) → n < length all
    → first_unknown (take n all) ≡ None → number_named name ≡ None → name ≡ get_or all n name
    → first_unknown all ≡ Some name
unknown_at [] n name h known e is = absurd (omega arith)
unknown_at (x ∷ xs) zero name h known e is =
    let here : name ≡ x = is in
    ap (λ y. cond (is_none (number_named y)) (Some y) (first_unknown xs)) (sym here)
    ∙ ap (λ number. cond (is_none number) (Some name) (first_unknown xs)) e
unknown_at (x ∷ xs) (suc n) name h known e is =
    after-first (number_named x) x name (first_unknown (take n xs)) (first_unknown xs) known
    (λ k. unknown_at xs n name (omega arith) k e is)
