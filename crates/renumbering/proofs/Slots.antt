-- Slots, free or taken: what they hold after a change, and what the taken ones pass.
use Rattle.std.proofs.Common.{[], ap, arith, Bool, cond, false, inl, inr, length, List, map, None, Option, refl, set}
use Rattle.std.proofs.Common.{Some, subst, suc, sym, true, zero, ℕ, ◌+◌, ◌<◌, ◌≤◌, ◌∙◌, ◌∷◌, ◌≡◌, ◌⊎◌}
use Rattle.std.proofs.lemmas.List.{get_or-set_other, get_or-set_same, length-map, map-set}
use Rattle.std.proofs.lemmas.Bool.{cases_lt, false≢true, lt-ltb}
use Rattle.std.proofs.lemmas.Bool.{or_cases, or_left, or_right}
use Rattle.std.proofs.lemmas.List.Quantifiers.{position-Some}
use Rattle.std.proofs.lemmas.List.Recursion.{is_position_or_len}
use Rattle.std.proofs.lemmas.List.Sums.{fails_before_first}
use Rattle.std.specs.List.{fold, list_any, position_or_len}
use Rattle.std.specs.Prelude.{if◌then◌else◌, is_none, is_some, nat_lt, option_map, position, ◌||◌}
use Rattle.renumbering.specs.Renumbered.{EachTaken, IsThere}
use Rattle.unixmodel.specs.Files.{clear, free_slot, put, slot, taken}
use Rattle.unixmodel.specs.Reap.{kept}

-- ---- what a slot holds

pub slot-map : {X Y : Type 0} (f : X → Y) (xs : List (Option X)) (i : ℕ)
    → slot (map (option_map f) xs) i ≡ option_map f (slot xs i)
slot-map f [] i = refl
slot-map f (x ∷ xs) zero = refl
slot-map f (x ∷ xs) (suc i) = slot-map f xs i

-- after one was written
slot-set : {X : Type 0} (xs : List (Option X)) (i j : ℕ) (o : Option X) (x : X) → slot (set xs i o) j ≡ Some x
    → ((j ≡ i) × (o ≡ Some x)) ⊎ (slot xs j ≡ Some x)
slot-set [] i j o x at = inr at
slot-set (y ∷ xs) zero zero o x at = inl (refl, at)
slot-set (y ∷ xs) zero (suc j) o x at = inr at
slot-set (y ∷ xs) (suc i) zero o x at = inr at
slot-set (y ∷ xs) (suc i) (suc j) o x at = elim (slot-set xs i j o x at) [
  | inl same ↦ inl (ap suc same.0, same.1)
  | inr other ↦ inr other
]

pub same-some : {X : Type 0} (x y : X) → Some x ≡ Some y → x ≡ y
same-some x y same = cc

-- what a slot holds is made of what one held
pub map-some : {X Y : Type 0} (f : X → Y) (o : Option X) (y : Y) → option_map f o ≡ Some y
    → (x : X) × (o ≡ Some x) × (f x ≡ y)
map-some f None y is = absurd cc
map-some f (Some x) y is = (x, refl, same-some (f x) y is)

pub some-is : {X : Type 0} (o : Option X) → is_some o ≡ true → (x : X) × (o ≡ Some x)
some-is None there = absurd cc
some-is (Some x) there = (x, refl)

pub some-map : {X Y : Type 0} (f : X → Y) (o : Option X) → is_some (option_map f o) ≡ is_some o
some-map f None = refl
some-map f (Some x) = refl

pub none-map : {X Y : Type 0} (f : X → Y) (o : Option X) → is_none (option_map f o) ≡ is_none o
none-map f None = refl
none-map f (Some x) = refl

pub none-is : {X : Type 0} (o : Option X) → is_none o ≡ true → o ≡ None
none-is None free = refl
none-is (Some x) free = absurd cc

pub same-bool : (a b : Bool) → (a ≡ true → b ≡ true) → (b ≡ true → a ≡ true) → a ≡ b
same-bool true true there back = refl
same-bool true false there back = sym (there refl)
same-bool false true there back = back refl
same-bool false false there back = refl

-- ---- slots that are all changed

-- the index of the first that passes
abbrev first : {X : Type 0} → (X → Bool) → List X → ℕ
first p [] = 0
first p (x ∷ xs) = cond (p x) 0 (1 + first p xs)

first-is : {X : Type 0} (p : X → Bool) (xs : List X) → first p xs ≡ position_or_len p xs
first-is p xs = is_position_or_len (first p) p refl (λ x xs. refl) xs

first-map : {X Y : Type 0} (f : X → Y) (test : Option Y → Bool) (other : Option X → Bool)
    → ((o : Option X) → test (option_map f o) ≡ other o) → (xs : List (Option X))
    → first test (map (option_map f) xs) ≡ first other xs
first-map f test other same [] = refl
first-map f test other same (o ∷ xs) =
    ap (λ b. cond b 0 (1 + first test (map (option_map f) xs))) (same o)
    ∙ ap (λ n. cond (other o) 0 (1 + n)) (first-map f test other same xs)

pub position-map : {X Y : Type 0} (f : X → Y) (test : Option Y → Bool) (other : Option X → Bool)
    → ((o : Option X) → test (option_map f o) ≡ other o) → (xs : List (Option X))
    → position test (map (option_map f) xs) ≡ position other xs
position-map f test other same xs =
    ap (λ n. cond (nat_lt n (length (map (option_map f) xs))) (Some n) None)
    (sym (first-is test (map (option_map f) xs)) ∙ first-map f test other same xs ∙ first-is other xs)
    ∙ ap (λ l. cond (nat_lt (position_or_len other xs) l) (Some (position_or_len other xs)) None)
    (length-map xs (option_map f))

pub free-map : {X Y : Type 0} (f : X → Y) (xs : List (Option X)) → free_slot (map (option_map f) xs) ≡ free_slot xs
free-map f xs = position-map f is_none is_none (none-map f) xs

pub any-map : {X Y : Type 0} (f : X → Y) (test : Y → Bool) (other : X → Bool) → ((x : X) → test (f x) ≡ other x)
    → (xs : List (Option X)) → list_any test (taken (map (option_map f) xs)) ≡ list_any other (taken xs)
any-map f test other same [] = refl
any-map f test other same (None ∷ xs) = any-map f test other same xs
any-map f test other same (Some x ∷ xs) =
    ap (λ b. b || list_any test (taken (map (option_map f) xs))) (same x)
    ∙ ap (λ b. other x || b) (any-map f test other same xs)

pub fold-map : {A X : Type 0} (f : X → X) (h : A → X → A) → ((a : A) (x : X) → h a (f x) ≡ h a x) → (a : A)
    → (xs : List (Option X)) → fold h a (taken (map (option_map f) xs)) ≡ fold h a (taken xs)
fold-map f h same a [] = refl
fold-map f h same a (None ∷ xs) = fold-map f h same a xs
fold-map f h same a (Some x ∷ xs) =
    ap (λ b. fold h b (taken (map (option_map f) xs))) (same a x) ∙ fold-map f h same (h a x) xs

pub option-then : {X Y Z : Type 0} (f : X → Y) (g : Y → Z) (h : X → Z) → ((x : X) → g (f x) ≡ h x) → (o : Option X)
    → option_map g (option_map f o) ≡ option_map h o
option-then f g h same None = refl
option-then f g h same (Some x) = ap Some (same x)

pub map-then : {X Y Z : Type 0} (f : X → Y) (g : Y → Z) (h : X → Z) → ((x : X) → g (f x) ≡ h x)
    → (xs : List (Option X))
    → map (option_map g) (map (option_map f) xs) ≡ map (option_map h) xs
map-then f g h same [] = refl
map-then f g h same (o ∷ xs) =
    ap (λ u. u ∷ map (option_map g) (map (option_map f) xs)) (option-then f g h same o)
    ∙ ap (λ us. option_map h o ∷ us) (map-then f g h same xs)

pub option-itself : {X : Type 0} (f : X → X) → ((x : X) → f x ≡ x) → (o : Option X) → option_map f o ≡ o
option-itself f same None = refl
option-itself f same (Some x) = ap Some (same x)

pub map-itself : {X : Type 0} (f : X → X) → ((x : X) → f x ≡ x) → (xs : List (Option X)) → map (option_map f) xs ≡ xs
map-itself f same [] = refl
map-itself f same (o ∷ xs) =
    ap (λ u. u ∷ map (option_map f) xs) (option-itself f same o) ∙ ap (λ us. o ∷ us) (map-itself f same xs)

option-swap : {X : Type 0} (f g : X → X) → ((x : X) → g (f x) ≡ f (g x)) → (o : Option X)
    → option_map g (option_map f o) ≡ option_map f (option_map g o)
option-swap f g same None = refl
option-swap f g same (Some x) = ap Some (same x)

pub map-swap : {X : Type 0} (f g : X → X) → ((x : X) → g (f x) ≡ f (g x)) → (xs : List (Option X))
    → map (option_map g) (map (option_map f) xs) ≡ map (option_map f) (map (option_map g) xs)
map-swap f g same [] = refl
map-swap f g same (o ∷ xs) =
    ap (λ u. u ∷ map (option_map g) (map (option_map f) xs)) (option-swap f g same o)
    ∙ ap (λ us. option_map f (option_map g o) ∷ us) (map-swap f g same xs)

pub put-map : {X Y : Type 0} (f : X → Y) (xs : List (Option X)) (i : ℕ) (x : X)
    → put (map (option_map f) xs) i (f x) ≡ map (option_map f) (put xs i x)
put-map f xs i x = sym (map-set (option_map f) xs i (Some x))

pub clear-map : {X Y : Type 0} (f : X → Y) (xs : List (Option X)) (i : ℕ)
    → clear (map (option_map f) xs) i ≡ map (option_map f) (clear xs i)
clear-map f xs i = sym (map-set (option_map f) xs i None)

pub change-map : {X : Type 0} (f g : X → X) (i : ℕ) → ((x : X) → g (f x) ≡ f (g x)) → (xs : List (Option X))
    → set (map (option_map f) xs) i (option_map g (slot (map (option_map f) xs) i))
    ≡ map (option_map f) (set xs i (option_map g (slot xs i)))
change-map f g i same xs =
    ap (λ o. set (map (option_map f) xs) i (option_map g o)) (slot-map f xs i)
    ∙ ap (set (map (option_map f) xs) i) (option-swap f g same (slot xs i))
    ∙ sym (map-set (option_map f) xs i (option_map g (slot xs i)))

-- ---- of each slot that is taken

pub each-set : {X : Type 0} {P : X → Type 0} {xs : List (Option X)} (i : ℕ) (o : Option X)
    → ((x : X) → o ≡ Some x → P x) → EachTaken P xs → EachTaken P (set xs i o)
each-set {xs = xs} i o new each = record {
  at = λ j x at. elim (slot-set xs i j o x at) [
    | inl same ↦ new x same.1
    | inr other ↦ each.at j x other
  ];
}

pub each-put : {X : Type 0} {P : X → Type 0} {xs : List (Option X)} (i : ℕ) (y : X) → P y → EachTaken P xs
    → EachTaken P (put xs i y)
each-put {P = P} i y holds each = each-set i (Some y) (λ x is. subst P (same-some y x is) holds) each

pub each-clear : {X : Type 0} {P : X → Type 0} {xs : List (Option X)} (i : ℕ) → EachTaken P xs
    → EachTaken P (clear xs i)
each-clear i each = each-set i None (λ x is. absurd cc) each

pub each-map : {X Y : Type 0} {P : X → Type 0} {Q : Y → Type 0} {xs : List (Option X)} (f : X → Y)
    → ((x : X) → P x → Q (f x)) → EachTaken P xs → EachTaken Q (map (option_map f) xs)
each-map {Q = Q} {xs = xs} f more each = record {
  at = λ i y at.
      let from = map-some f (slot xs i) y (sym (slot-map f xs i) ∙ at) in
      subst Q from.2 (more from.0 (each.at i from.0 from.1));
}

pub each-more : {X : Type 0} {P Q : X → Type 0} {xs : List (Option X)} → ((x : X) → P x → Q x) → EachTaken P xs
    → EachTaken Q xs
each-more more each = record { at = λ i x at. more x (each.at i x at) }

pub each-change : {X : Type 0} {P : X → Type 0} {xs : List (Option X)} (i : ℕ) (f : X → X)
    → ((x : X) → P x → P (f x)) → EachTaken P xs → EachTaken P (set xs i (option_map f (slot xs i)))
each-change {P = P} {xs = xs} i f more each = each-set i (option_map f (slot xs i))
    (λ y is.
    let from = map-some f (slot xs i) y is in
    subst P from.2 (more from.0 (each.at i from.0 from.1)))
    each

-- what is made the same of each
pub map-same : {X Y : Type 0} (f g : X → Y) (xs : List (Option X)) → EachTaken (λ x. f x ≡ g x) xs
    → map (option_map f) xs ≡ map (option_map g) xs
map-same f g [] each = refl
map-same {X = X} f g (o ∷ xs) each =
    ap (λ u. u ∷ map (option_map f) xs) (by o refl)
    ∙ ap (λ us. option_map g o ∷ us) (map-same f g xs (record { at = λ i x at. each.at (suc i) x at }))
  where
    by : (u : Option X) → o ≡ u → option_map f u ≡ option_map g u
    by None is = refl
    by (Some x) is = ap Some (each.at 0 x is)

-- a slot that is taken stays so
pub there-put : {X : Type 0} (xs : List (Option X)) (i j : ℕ) (x : X) → IsThere xs j → IsThere (put xs i x) j
there-put [] i j x there = there
there-put (o ∷ xs) zero zero x there = refl
there-put (o ∷ xs) zero (suc j) x there = there
there-put (o ∷ xs) (suc i) zero x there = there
there-put (o ∷ xs) (suc i) (suc j) x there = there-put xs i j x there

pub there-written : {X : Type 0} (xs : List (Option X)) (i : ℕ) (x : X) → i < length xs → IsThere (put xs i x) i
there-written xs i x less = ap is_some (get_or-set_same xs i (Some x) None less)

-- ---- the slots that are kept

abbrev pub if_passes : {X : Type 0} → (X → Bool) → Option X → Option X
if_passes test None = None
if_passes test (Some x) = if test x then Some x else None

pub slot-kept : {X : Type 0} (test : ℕ → X → Bool) (n : ℕ) (xs : List (Option X)) (k : ℕ)
    → slot (kept test n xs) k ≡ if_passes (test (n + k)) (slot xs k)
slot-kept test n [] k = refl
slot-kept test n (None ∷ xs) zero = refl
slot-kept test n (None ∷ xs) (suc k) =
    slot-kept test (n + 1) xs k ∙ ap (λ m. if_passes (test m) (slot xs k)) (omega arith)
slot-kept test n (Some x ∷ xs) zero = ap (λ m. if test m x then Some x else None) (omega arith)
slot-kept test n (Some x ∷ xs) (suc k) =
    slot-kept test (n + 1) xs k ∙ ap (λ m. if_passes (test m) (slot xs k)) (omega arith)

pub length-kept : {X : Type 0} (test : ℕ → X → Bool) (n : ℕ) (xs : List (Option X))
    → length (kept test n xs) ≡ length xs
length-kept test n [] = refl
length-kept test n (None ∷ xs) = ap (λ l. suc l) (length-kept test (n + 1) xs)
length-kept test n (Some x ∷ xs) = ap (λ l. suc l) (length-kept test (n + 1) xs)

passed : {X : Type 0} (test : X → Bool) (o : Option X) (x : X) → if_passes test o ≡ Some x
    → (o ≡ Some x) × (test x ≡ true)
passed test None x at = absurd cc
passed test (Some y) x at = by (test y) refl at
  where
    by : (b : Bool) → test y ≡ b → (if b then Some y else None) ≡ Some x → (Some y ≡ Some x) × (test x ≡ true)
    by true is at = (at, sym (ap test (same-some y x at)) ∙ is)
    by false is at = absurd cc

-- each slot that is kept was taken, and passes
pub each-kept : {X : Type 0} {P : X → Type 0} (test : ℕ → X → Bool) (xs : List (Option X))
    → ((i : ℕ) (x : X) → test i x ≡ true → slot xs i ≡ Some x → P x) → EachTaken P (kept test 0 xs)
each-kept test xs more = record {
  at = λ i x at.
      let from = passed (test (0 + i)) (slot xs i) x (sym (slot-kept test 0 xs i) ∙ at) in
      more i x (ap (λ n. test n x) (omega arith) ∙ from.1) from.0;
}

-- a slot that is taken and passes is kept
pub there-kept : {X : Type 0} (test : ℕ → X → Bool) (xs : List (Option X)) (k : ℕ) → ((x : X) → test k x ≡ true)
    → IsThere xs k → IsThere (kept test 0 xs) k
there-kept {X = X} test xs k passes there =
    ap is_some (slot-kept test 0 xs k) ∙ by (slot xs k) there
  where
    by : (o : Option X) → is_some o ≡ true → is_some (if_passes (test (0 + k)) o) ≡ true
    by None there = there
    by (Some x) there = ap (λ b. is_some (if b then Some x else None)) (ap (λ n. test n x) (omega arith) ∙ passes x)

-- ---- what some slot passes

pub any-at : {X : Type 0} (test : X → Bool) (xs : List (Option X)) (k : ℕ) (x : X) → slot xs k ≡ Some x → test x ≡ true
    → list_any test (taken xs) ≡ true
any-at test [] k x at passes = absurd cc
any-at test (None ∷ xs) zero x at passes = absurd cc
any-at test (None ∷ xs) (suc k) x at passes = any-at test xs k x at passes
any-at test (Some y ∷ xs) zero x at passes =
    or_left (test y) (list_any test (taken xs)) (ap test (same-some y x at) ∙ passes)
any-at test (Some y ∷ xs) (suc k) x at passes =
    or_right (test y) (list_any test (taken xs)) (any-at test xs k x at passes)

pub any-from : {X : Type 0} (test : X → Bool) (xs : List (Option X)) → list_any test (taken xs) ≡ true
    → (k : ℕ) × (x : X) × (slot xs k ≡ Some x) × (test x ≡ true)
any-from test [] passes = absurd cc
any-from test (None ∷ xs) passes =
    let from = any-from test xs passes in
    (suc from.0, from.1, from.2, from.3)
any-from test (Some y ∷ xs) passes = elim (or_cases (test y) (list_any test (taken xs)) passes) [
  | inl here ↦ (0, y, refl, here)
  | inr later ↦ (let from = any-from test xs later in (suc from.0, from.1, from.2, from.3))
]

-- ---- how many slots are taken

-- one fewer where a slot is cleared
taken-clear : {X : Type 0} (xs : List (Option X)) (i : ℕ) → IsThere xs i
    → length (taken xs) ≡ suc (length (taken (clear xs i)))
taken-clear [] i there = absurd cc
taken-clear (None ∷ xs) zero there = absurd cc
taken-clear (None ∷ xs) (suc i) there = taken-clear xs i there
taken-clear (Some x ∷ xs) zero there = refl
taken-clear (Some x ∷ xs) (suc i) there = ap (λ l. suc l) (taken-clear xs i there)

-- no fewer where each slot that is taken has one of its own
pub count-below : {X Y : Type 0} (xs : List (Option X)) (ys : List (Option Y)) (h : ℕ → ℕ)
    → ((j k : ℕ) → h j ≡ h k → j ≡ k) → ((k : ℕ) → IsThere xs k → IsThere ys (h k))
    → length (taken xs) ≤ length (taken ys)
count-below [] ys h apart there = omega arith
count-below (None ∷ xs) ys h apart there = count-below xs ys (λ k. h (suc k))
    (λ j k same. omega (arith, apart (suc j) (suc k) same)) (λ k taken. there (suc k) taken)
count-below (Some x ∷ xs) ys h apart there =
    let one = taken-clear ys (h 0) (there 0 refl) in
    let rest = count-below xs (clear ys (h 0)) (λ k. h (suc k)) (λ j k same. omega (arith, apart (suc j) (suc k) same))
    (λ k taken. ap is_some (get_or-set_other ys (h 0) (h (suc k)) None None
    (λ same. absurd (let none = apart (suc k) 0 same in omega (arith, none)))) ∙ there (suc k) taken) in
    omega (arith, one, rest)

-- ---- free slots

pub free-is : {X : Type 0} (xs : List (Option X)) (k : ℕ) → free_slot xs ≡ Some k
    → (k < length xs) × (slot xs k ≡ None)
free-is xs k found =
    let from = position-Some is_none xs k None found in
    (from.0, none-is (slot xs k) from.1)

pub free-from : {X : Type 0} (xs : List (Option X)) (k : ℕ) → k < length xs → slot xs k ≡ None
    → is_some (free_slot xs) ≡ true
free-from xs k less free = elim (cases_lt (position_or_len is_none xs) (length xs)) [
  | inl within ↦ ap (λ b. is_some (cond b (Some (position_or_len is_none xs)) None))
      (lt-ltb (position_or_len is_none xs) (length xs) within)
  | inr beyond ↦ absurd (false≢true (
      sym (fails_before_first is_none xs k None (omega (arith, less, beyond))) ∙ ap is_none free))
]
