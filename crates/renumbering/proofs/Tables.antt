-- Tables whose slots are at other numbers: what is the same of both, and what a change leaves so.
use Rattle.std.proofs.Common.{ap, arith, Bool, false, inl, inr, length, List, None, Option, refl, set}
use Rattle.std.proofs.Common.{Some, subst, sym, true, le_antisymm, ℕ, ◌+◌, ◌<◌, ◌∙◌, ◌≡◌}
use Rattle.std.proofs.lemmas.List.{get_or-set_other, get_or-set_same, length-set, set_past}
use Rattle.std.proofs.lemmas.Bool.{cases_eq, cases_lt, eq-eqb, false≢true, le-ltb, lt-ltb, ltb-false, ltb-true, ne_eqb}
use Rattle.std.specs.List.{list_any}
use Rattle.std.specs.Prelude.{if◌then◌else◌, is_none, is_some, nat_lt, option_map, ◌==◌}
use Rattle.renumbering.proofs.Slots.{any-at, any-from, count-below, free-from, free-is, if_passes, length-kept}
use Rattle.renumbering.proofs.Slots.{map-some, none-is, none-map, option-itself, option-then, same-bool, slot-kept}
use Rattle.renumbering.proofs.Slots.{some-is, some-map}
use Rattle.renumbering.specs.Renumbered.{IsMoved, IsThere, Renumbering}
use Rattle.unixmodel.specs.Files.{free_slot, put, slot, taken}
use Rattle.unixmodel.specs.Reap.{kept}

-- ---- other numbers

pub there-same : (r : Renumbering) (j k : ℕ) → r.there j ≡ r.there k → j ≡ k
there-same r j k same = sym (r.back_there j) ∙ ap r.back same ∙ r.back_there k

pub back-same : (r : Renumbering) (j k : ℕ) → r.back j ≡ r.back k → j ≡ k
back-same r j k same = sym (r.there_back j) ∙ ap r.there same ∙ r.there_back k

pub there-eq : (r : Renumbering) (j k : ℕ) → (r.there j == r.there k) ≡ (j == k)
there-eq r j k = elim (cases_eq j k) [
  | inl same ↦ eq-eqb (r.there j) (r.there k) (ap r.there same) ∙ sym (eq-eqb j k same)
  | inr other ↦ ne_eqb (r.there j) (r.there k) (λ same. other (there-same r j k same)) ∙ sym (ne_eqb j k other)
]

-- the same numbers, the way back, and one after the other
abbrev pub same_numbers : Renumbering
same_numbers = record { there = λ k. k; back = λ k. k; back_there = λ k. refl; there_back = λ k. refl }

abbrev pub way_back : Renumbering → Renumbering
way_back r = record { there = r.back; back = r.there; back_there = r.there_back; there_back = r.back_there }

abbrev pub one_then : Renumbering → Renumbering → Renumbering
one_then r q = record {
  there = λ k. q.there (r.there k);
  back = λ k. r.back (q.back k);
  back_there = λ k. ap r.back (q.back_there (r.there k)) ∙ r.back_there k;
  there_back = λ k. ap q.there (r.there_back (q.back k)) ∙ q.there_back k;
}

-- a and b exchanged
abbrev pub swapped : ℕ → ℕ → ℕ → ℕ
swapped a b k = if k == a then b else if k == b then a else k

swapped-first : (a b k : ℕ) → k ≡ a → swapped a b k ≡ b
swapped-first a b k same = ap (λ t. if t then b else if k == b then a else k) (eq-eqb k a same)

pub swapped-else : (a b k : ℕ) → (k ≡ a → ⊥) → (k ≡ b → ⊥) → swapped a b k ≡ k
swapped-else a b k first second =
    ap (λ t. if t then b else if k == b then a else k) (ne_eqb k a first)
    ∙ ap (λ t. if t then a else k) (ne_eqb k b second)

swapped-second : (a b k : ℕ) → k ≡ b → swapped a b k ≡ a
swapped-second a b k same = elim (cases_eq k a) [
  | inl first ↦ swapped-first a b k first ∙ sym same ∙ first
  | inr other ↦ ap (λ t. if t then b else if k == b then a else k) (ne_eqb k a other)
      ∙ ap (λ t. if t then a else k) (eq-eqb k b same)
]

-- what is the same at both is the same at all
pub swapped-same : {Y : Type 0} (h : ℕ → Y) (a b : ℕ) → h a ≡ h b → (k : ℕ) → h (swapped a b k) ≡ h k
swapped-same h a b same k = elim (cases_eq k a) [
  | inl first ↦ ap h (swapped-first a b k first) ∙ sym same ∙ ap h (sym first)
  | inr other ↦ elim (cases_eq k b) [
    | inl second ↦ ap h (swapped-second a b k second) ∙ same ∙ ap h (sym second)
    | inr neither ↦ ap h (swapped-else a b k other neither)
  ]
]

pub swapped-twice : (a b k : ℕ) → swapped a b (swapped a b k) ≡ k
swapped-twice a b k = elim (cases_eq k a) [
  | inl first ↦ ap (swapped a b) (swapped-first a b k first) ∙ swapped-second a b b refl ∙ sym first
  | inr other ↦ elim (cases_eq k b) [
    | inl second ↦ ap (swapped a b) (swapped-second a b k second) ∙ swapped-first a b a refl ∙ sym second
    | inr neither ↦ ap (swapped a b) (swapped-else a b k other neither) ∙ swapped-else a b k other neither
  ]
]

-- the other numbers, where now a goes to b
abbrev pub sent : Renumbering → ℕ → ℕ → Renumbering
sent r a b = record {
  there = λ k. swapped (r.there a) b (r.there k);
  back = λ k. r.back (swapped (r.there a) b k);
  back_there = λ k. ap r.back (swapped-twice (r.there a) b (r.there k)) ∙ r.back_there k;
  there_back = λ k. ap (swapped (r.there a) b) (r.there_back (swapped (r.there a) b k)) ∙ swapped-twice (r.there a) b k;
}

pub sent-there : (r : Renumbering) (a b : ℕ) → (sent r a b).there a ≡ b
sent-there r a b = swapped-first (r.there a) b (r.there a) refl

-- ---- tables whose slots are at other numbers

module _ {X : Type 0} {r : Renumbering} {made : X → X} {xs ys : List (Option X)} (moved : IsMoved r made xs ys) where
  pub moved-there : (k : ℕ) → is_some (slot ys (r.there k)) ≡ is_some (slot xs k)
  moved-there k = ap is_some (moved.holds k) ∙ some-map made (slot xs k)

  -- where a slot is written
  moved-written : (k : ℕ) (o : Option X)
      → IsMoved r made (set xs k o) (set ys (r.there k) (option_map made o))
  moved-written k o = record {
    holds = λ j. elim (cases_eq j k) [
      | inl same ↦ subst (λ j. slot (set ys (r.there k) (option_map made o)) (r.there j)
          ≡ option_map made (slot (set xs k o) j)) (sym same) here
      | inr other ↦ get_or-set_other ys (r.there k) (r.there j) (option_map made o) None
          (λ same. other (there-same r j k same))
          ∙ moved.holds j ∙ ap (option_map made) (sym (get_or-set_other xs k j o None other))
    ];
    slots = λ j. ap (nat_lt (r.there j)) (length-set ys (r.there k) (option_map made o)) ∙ moved.slots j
        ∙ ap (nat_lt j) (sym (length-set xs k o));
  }
    where
      here : slot (set ys (r.there k) (option_map made o)) (r.there k) ≡ option_map made (slot (set xs k o) k)
      here = elim (cases_lt k (length xs)) [
        | inl less ↦ get_or-set_same ys (r.there k) (option_map made o) None
            (ltb-true (r.there k) (length ys) (moved.slots k ∙ lt-ltb k (length xs) less))
            ∙ ap (option_map made) (sym (get_or-set_same xs k o None less))
        | inr beyond ↦ ap (λ us. slot us (r.there k)) (set_past ys (r.there k) (option_map made o)
            (ltb-false (r.there k) (length ys) (moved.slots k ∙ le-ltb k (length xs) beyond)))
            ∙ moved.holds k ∙ ap (λ us. option_map made (slot us k)) (sym (set_past xs k o beyond))
      ]

  pub moved-put : (k b : ℕ) (x : X) → b ≡ r.there k → IsMoved r made (put xs k x) (put ys b (made x))
  moved-put k b x same =
      subst (λ b. IsMoved r made (put xs k x) (put ys b (made x))) (sym same) (moved-written k (Some x))

  -- where some are kept
  pub moved-kept : (test other : ℕ → X → Bool) → ((k : ℕ) (x : X) → other (r.there k) (made x) ≡ test k x)
      → IsMoved r made (kept test 0 xs) (kept other 0 ys)
  moved-kept test other same = record {
    holds = λ k. slot-kept other 0 ys (r.there k)
        ∙ ap (if_passes (other (0 + r.there k))) (moved.holds k)
        ∙ ap (λ n. if_passes (other n) (option_map made (slot xs k))) (omega arith)
        ∙ by k (slot xs k)
        ∙ ap (λ n. option_map made (if_passes (test n) (slot xs k))) (omega arith)
        ∙ ap (option_map made) (sym (slot-kept test 0 xs k));
    slots = λ k. ap (nat_lt (r.there k)) (length-kept other 0 ys) ∙ moved.slots k
        ∙ ap (nat_lt k) (sym (length-kept test 0 xs));
  }
    where
      if-made : (b : Bool) (x : X) → (if b then Some (made x) else None) ≡ option_map made (if b then Some x else None)
      if-made true x = refl
      if-made false x = refl

      by : (k : ℕ) (o : Option X)
          → if_passes (other (r.there k)) (option_map made o) ≡ option_map made (if_passes (test k) o)
      by k None = refl
      by k (Some x) = ap (λ b. if b then Some (made x) else None) (same k x) ∙ if-made (test k x) x

  -- where what is made of what they hold is the same
  pub moved-made : (other : X → X) → ((k : ℕ) (x : X) → slot xs k ≡ Some x → other x ≡ made x)
      → IsMoved r other xs ys
  moved-made other same = record {
    holds = λ k. moved.holds k ∙ by k (slot xs k) refl;
    slots = moved.slots;
  }
    where
      by : (k : ℕ) (o : Option X) → slot xs k ≡ o → option_map made o ≡ option_map other o
      by k None at = refl
      by k (Some x) at = ap Some (sym (same k x at))

  -- a slot that is free, at a number that is free
  module _ (a b : ℕ) (free : slot xs a ≡ None) (open_slot : slot ys b ≡ None) where
    free-there : slot ys (r.there a) ≡ None
    free-there = moved.holds a ∙ ap (option_map made) free

    pub moved-sent : a < length xs → b < length ys → IsMoved (sent r a b) made xs ys
    moved-sent here there = record {
      holds = λ k. swapped-same (slot ys) (r.there a) b (free-there ∙ sym open_slot) (r.there k) ∙ moved.holds k;
      slots = λ k. swapped-same (λ n. nat_lt n (length ys)) (r.there a) b
          (moved.slots a ∙ lt-ltb a (length xs) here ∙ sym (lt-ltb b (length ys) there)) (r.there k) ∙ moved.slots k;
    }

    -- the numbers of those that are taken stay
    pub sent-else : (k : ℕ) → IsThere xs k → (sent r a b).there k ≡ r.there k
    sent-else k taken = swapped-else (r.there a) b (r.there k)
        (λ same. false≢true (sym (ap is_some (ap (slot ys) same ∙ free-there)) ∙ moved-there k ∙ taken))
        (λ same. false≢true (sym (ap is_some (ap (slot ys) same ∙ open_slot)) ∙ moved-there k ∙ taken))

-- ---- what is the same of both tables

module _ {X : Type 0} {r : Renumbering} {made : X → X} {xs ys : List (Option X)} (moved : IsMoved r made xs ys) where
  -- a slot of the second is one of the first, at its own number
  pub moved-from : (l : ℕ) → slot ys l ≡ option_map made (slot xs (r.back l))
  moved-from l = ap (slot ys) (sym (r.there_back l)) ∙ moved.holds (r.back l)

  pub moved-any : (test other : X → Bool) → ((x : X) → other (made x) ≡ test x)
      → list_any other (taken ys) ≡ list_any test (taken xs)
  moved-any test other same = same-bool (list_any other (taken ys)) (list_any test (taken xs))
      (λ passes.
      let from = any-from other ys passes in
      let old = map-some made (slot xs (r.back from.0)) from.1 (sym (moved-from from.0) ∙ from.2) in
      any-at test xs (r.back from.0) old.0 old.1 (sym (same old.0) ∙ ap other old.2 ∙ from.3))
      (λ passes.
      let from = any-from test xs passes in
      any-at other ys (r.there from.0) (made from.1) (moved.holds from.0 ∙ ap (option_map made) from.2)
      (same from.1 ∙ from.3))

  pub moved-count : length (taken ys) ≡ length (taken xs)
  moved-count = le_antisymm
      (count-below ys xs r.back (back-same r) (λ l there.
      sym (some-map made (slot xs (r.back l))) ∙ ap is_some (sym (moved-from l)) ∙ there))
      (count-below xs ys r.there (there-same r) (λ k there. moved-there moved k ∙ there))

  pub moved-free : is_some (free_slot ys) ≡ is_some (free_slot xs)
  moved-free = same-bool (is_some (free_slot ys)) (is_some (free_slot xs))
      (λ free.
      let found = some-is (free_slot ys) free in
      let at = free-is ys found.0 found.1 in
      free-from xs (r.back found.0)
      (ltb-true (r.back found.0) (length xs) (sym (moved.slots (r.back found.0))
      ∙ ap (λ l. nat_lt l (length ys)) (r.there_back found.0) ∙ lt-ltb found.0 (length ys) at.0))
      (none-is (slot xs (r.back found.0)) (sym (none-map made (slot xs (r.back found.0)))
      ∙ ap is_none (sym (moved-from found.0) ∙ at.1))))
      (λ free.
      let found = some-is (free_slot xs) free in
      let at = free-is xs found.0 found.1 in
      free-from ys (r.there found.0)
      (ltb-true (r.there found.0) (length ys) (moved.slots found.0 ∙ lt-ltb found.0 (length xs) at.0))
      (moved.holds found.0 ∙ ap (option_map made) at.1))

  pub moved-back : (other : X → X) → ((x : X) → other (made x) ≡ x) → IsMoved (way_back r) other ys xs
  moved-back other same = record {
    holds = λ l. sym (ap (option_map other) (moved-from l)
        ∙ option-then made other (λ x. x) same (slot xs (r.back l))
        ∙ option-itself (λ x. x) (λ x. refl) (slot xs (r.back l)));
    slots = λ l. sym (moved.slots (r.back l)) ∙ ap (λ k. nat_lt k (length ys)) (r.there_back l);
  }

pub moved-itself : {X : Type 0} (made : X → X) → ((x : X) → made x ≡ x) → (xs : List (Option X))
    → IsMoved same_numbers made xs xs
moved-itself made same xs =
    record { holds = λ k. sym (option-itself made same (slot xs k)); slots = λ k. refl }

pub moved-then : {X : Type 0} {r q : Renumbering} {made other : X → X} {xs ys zs : List (Option X)}
    → IsMoved r made xs ys → IsMoved q other ys zs → (both : X → X) → ((x : X) → other (made x) ≡ both x)
    → IsMoved (one_then r q) both xs zs
moved-then {r = r} {made = made} {other = other} {xs = xs} one two both same = record {
  holds = λ k. two.holds (r.there k) ∙ ap (option_map other) (one.holds k)
      ∙ option-then made other both same (slot xs k);
  slots = λ k. two.slots (r.there k) ∙ one.slots k;
}
