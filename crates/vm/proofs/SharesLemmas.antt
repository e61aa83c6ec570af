-- Lemmas on all frames of a machine.
use Rattle.vm.proofs.Common.{Ram, [], all_held, among, ap, arith, cases_eq, cases_lt, count_of, count_of-append}
use Rattle.vm.proofs.Common.{count_of-first, flat_map, frame_of, Frames, frames_used, free_of, free_of-same}
use Rattle.vm.proofs.Common.{FreeAreTheRest, further_at, get_or, get_or-set_other, get_or-set_same, get_or_past}
use Rattle.vm.proofs.Common.{held-inside, held_at, holders-free, holders_of, holds, inl, inr, IsDuplicate, IsFreeList}
use Rattle.vm.proofs.Common.{IsFreeList-same, IsMachine, IsPlace, IsShared, IsShared-trade, IsSpace, IsUntouched}
use Rattle.vm.proofs.Common.{length, length-append, length-set, List, ltb, NewSpaceSettles, None, one-holder, one_if}
use Rattle.vm.proofs.Common.{OnePlaceForks, OnePlaceSpares, OnePlaceSparesOthers, OnePlaceTrades, Option, OthersSpare}
use Rattle.vm.proofs.Common.{OthersTrade, refl, replicate, set-get_or, shared-count, single, slice_set, Some, Space}
use Rattle.vm.proofs.Common.{suc, sum_by, sum_by-cons, sym, Trades, true, zero, ℕ, ◌++◌, ◌+◌, ◌<◌, ◌∙◌, ◌∷◌, ◌≡◌, ◌≢◌}
use Rattle.vm.proofs.Common.{◌≤◌}
use Rattle.frames.proofs.HolderLemmas.{same-further, same-holders, same-list, same-shared}
use Rattle.vm.proofs.BesideLemmas.{alone-stays, Trades-space, Trades-untouched}
use Rattle.vm.proofs.HeldLemmas.{length-held}

-- ---- counts in a list of slots

-- one slot counts no more than all, and two slots neither
pub one-place : {X : Type 0} (g : Option X → List ℕ) (f : ℕ) (xs : List (Option X)) (i : ℕ) → g None ≡ []
    → count_of f (g (get_or xs i None)) ≤ count_of f (flat_map g xs)
one-place g f [] i none = omega (arith, ap (count_of f) none)
one-place g f (x ∷ xs) zero none = omega (arith, count_of-append)
one-place g f (x ∷ xs) (suc i) none = omega (arith, count_of-append, one-place g f xs i none)

pub two-places : {X : Type 0} (g : Option X → List ℕ) (f : ℕ) (xs : List (Option X)) (i j : ℕ) → g None ≡ [] → j ≢ i
    → count_of f (g (get_or xs i None)) + count_of f (g (get_or xs j None)) ≤ count_of f (flat_map g xs)
two-places g f [] i j none ne = omega (arith, ap (count_of f) none)
two-places g f (x ∷ xs) zero zero none ne = absurd (ne refl)
two-places g f (x ∷ xs) zero (suc j) none ne = omega (arith, count_of-append, one-place g f xs j none)
two-places g f (x ∷ xs) (suc i) zero none ne = omega (arith, count_of-append, one-place g f xs i none)
two-places g f (x ∷ xs) (suc i) (suc j) none ne =
    omega (arith, count_of-append, two-places g f xs i j none (λ e. ne (ap suc e)))

same-places : {X : Type 0} (g h : Option X → List ℕ) (xs : List (Option X))
    → ((j : ℕ) → h (get_or xs j None) ≡ g (get_or xs j None)) → flat_map h xs ≡ flat_map g xs
same-places g h [] same = refl
same-places g h (x ∷ xs) same = ap (λ l. l ++ flat_map h xs) (same 0)
    ∙ ap (λ l. g x ++ l) (same-places g h xs (λ j. same (suc j)))

-- one slot changes
pub set-place : {X : Type 0} (g h : Option X → List ℕ) (f : ℕ) (xs : List (Option X)) (i : ℕ) (y : Option X)
    → i < length xs → ((j : ℕ) → j ≢ i → h (get_or xs j None) ≡ g (get_or xs j None))
    → count_of f (flat_map h (slice_set xs i y)) + count_of f (g (get_or xs i None))
    ≡ count_of f (flat_map g xs) + count_of f (h y)
set-place g h f [] i y hi same = absurd (omega arith)
set-place g h f (x ∷ xs) zero y hi same =
    let rest : flat_map h xs ≡ flat_map g xs = same-places g h xs (λ j. same (suc j) (omega arith)) in
    omega (arith, count_of-append, ap (count_of f) rest)
set-place g h f (x ∷ xs) (suc i) y hi same =
    omega (
      arith,
      count_of-append,
      ap (count_of f) (same 0 (omega arith)),
      set-place g h f xs i y (omega arith) (λ j ne. same (suc j) (λ e. ne (omega arith))),
    )

-- what holds of the new one and of the others holds of each
pub each-set : {X : Type 0} (P : X → Type 0) (xs : List (Option X)) (i : ℕ) (y : Option X) → i < length xs
    → ((x : X) → y ≡ Some x → P x) → ((j : ℕ) (x : X) → j ≢ i → get_or xs j None ≡ Some x → P x)
    → (j : ℕ) (x : X) → get_or (slice_set xs i y) j None ≡ Some x → P x
each-set P xs i y hi here others j x e = elim (cases_eq j i) [
  | inl same ↦ here x (sym (get_or-set_same xs i y None hi) ∙ ap (λ p. get_or (slice_set xs i y) p None) (sym same) ∙ e)
  | inr ne ↦ others j x ne (sym (get_or-set_other xs i j y None ne) ∙ e)
]

within-places : (xs : List (Option Space)) (i : ℕ) (x : Space) → get_or xs i None ≡ Some x → i < length xs
within-places xs i x e =
    elim (cases_lt i (length xs)) [ inl low ↦ low | inr past ↦ absurd (let none = get_or_past xs i None past in cc) ]

-- ---- one slot trades

-- what is held in all
all-count : (m : Ram) (places : List (Option Space)) (others : List ℕ) (f : ℕ)
    → count_of f (all_held m places others) ≡ count_of f (flat_map (held_at m) places) + count_of f others
all-count m places others f = count_of-append f (flat_map (held_at m) places) others

module _ {m : Ram} {s : Frames} {places : List (Option Space)} {others : List ℕ} (is : IsMachine m s places others)
  where
    room-of : (i j : ℕ) {x : Space} → j ≢ i → get_or places j None ≡ Some x → (f : ℕ)
        → count_of f (held_at m (get_or places i None)) + count_of f (holds m x) ≤ holders_of m s f
    room-of i j ne e f =
        omega (
          arith,
          all-count m places others f,
          two-places (held_at m) f places i j refl ne,
          ap (λ o. count_of f (held_at m o)) e,
        )

    beside-rest : (old : List ℕ) (j : ℕ) {x : Space} → ((f : ℕ) → count_of f old ≤ count_of f others)
        → get_or places j None ≡ Some x → (f : ℕ) → count_of f old + count_of f (holds m x) ≤ holders_of m s f
    beside-rest old j low e f =
        omega (
          arith,
          low f,
          all-count m places others f,
          one-place (held_at m) f places j refl,
          ap (λ o. count_of f (held_at m o)) e,
        )

-- what one slot trades leaves the others as they were
pub trade-others : OnePlaceSpares
trade-others m k s n places others new i is t j x ne e = Trades-untouched t x (is.each j x e) (room-of is i j ne e)

same-held : (m k : Ram) (o : Option Space) → ((x : Space) → o ≡ Some x → IsUntouched m k x) → held_at k o ≡ held_at m o
same-held m k None h = refl
same-held m k (Some x) h = (h x refl).frames

place-free : (k : Ram) (y : Option Space) (n : Frames) → IsPlace k y n → IsFreeList k n
place-free k None n h = h
place-free k (Some x) n h = h.free

place-space : (k : Ram) (y : Option Space) (n : Frames) (x : Space) → IsPlace k y n → y ≡ Some x → IsSpace k x n
place-space k None n x h e = absurd cc
place-space k (Some z) n x h e = let same : z ≡ x = cc in rw (← same) h

-- a machine stays one where one slot trades: a space that grows or shrinks, is written, is made, goes or is replaced
pub trade-machine : OnePlaceTrades
trade-machine m k s n places others i y is hi new t =
    let stay = trade-others m k s n places others (held_at k y) i is t in
    record {
      free = place-free k y n new;
      each = each-set (λ x. IsSpace k x n) places i y hi (λ x e. place-space k y n x new e)
          (λ j x ne e. Trades-space t x (is.each j x e) (room-of is i j ne e) (place-free k y n new));
      shared = IsShared-trade t (all_held m places others) (all_held k (slice_set places i y) others) is.shared
          (λ f. omega (
            arith,
            all-count m places others f,
            all-count k (slice_set places i y) others f,
            set-place (held_at m) (held_at k) f places i y hi
                (λ j ne. same-held m k (get_or places j None) (λ x e. stay j x ne e)),
          ));
      alone = λ f some.
          let room : count_of f (held_at m (get_or places i None)) + count_of f others ≤ holders_of m s f =
          omega (arith, all-count m places others f, one-place (held_at m) f places i refl) in
          alone-stays t f is.free (place-free k y n new) (omega arith) (is.alone f some);
    }

-- a machine stays one where a space shares its frames with a new one, which gets a slot that had none
pub fork-machine : OnePlaceForks
fork-machine m k s n places others i j x c is at hi none parent child t =
    let first : Trades m k s n (held_at m (get_or places i None)) (holds k x ++ holds k c) = rw at t in
    let stay = trade-others m k s n places others (holds k x ++ holds k c) i is first in
    let low : i < length places = within-places places i x at in
    let same : slice_set places i (Some x) ≡ places = ap (slice_set places i) (sym at) ∙ set-get_or places i None in
    let one : (f : ℕ) → count_of f (flat_map (held_at k) places) + count_of f (holds m x)
    ≡ count_of f (flat_map (held_at m) places) + count_of f (holds k x) = λ f.
    omega (
      arith,
      set-place (held_at m) (held_at k) f places i (Some x) low
          (λ p ne. same-held m k (get_or places p None) (λ y e. stay p y ne e)),
      ap (λ (l : List (Option Space)). count_of f (flat_map (held_at k) l)) same,
      ap (λ o. count_of f (held_at m o)) at,
    ) in
    let room : (f : ℕ) → count_of f (holds m x) + count_of f others ≤ holders_of m s f = λ f.
    omega (
      arith,
      all-count m places others f,
      one-place (held_at m) f places i refl,
      ap (λ o. count_of f (held_at m o)) at,
    ) in
    record {
      free = child.free;
      each = each-set (λ y. IsSpace k y n) places j (Some c) hi (λ y e. place-space k (Some c) n y child e)
          (λ p y ne e. elim (cases_eq p i) [
            | inl is_i ↦ place-space k (Some x) n y parent (sym at ∙ ap (λ q. get_or places q None) (sym is_i) ∙ e)
            | inr other ↦ Trades-space first y (is.each p y e) (room-of is i p other e) child.free
          ]);
      shared = IsShared-trade t (all_held m places others) (all_held k (slice_set places j (Some c)) others) is.shared
          (λ f. omega (
            arith,
            all-count m places others f,
            all-count k (slice_set places j (Some c)) others f,
            count_of-append f (holds k x) (holds k c),
            one f,
            set-place (held_at k) (held_at k) f places j (Some c) hi (λ p ne. refl),
            ap (λ o. count_of f (held_at k o)) none,
          ));
      alone = λ f some. alone-stays t f is.free child.free (omega (arith, room f)) (is.alone f some);
    }

-- the other frames keep their bytes then
pub trade-rest : OnePlaceSparesOthers
trade-rest m k s n places others new i f is t some =
    t.others f (omega (arith, all-count m places others f, one-place (held_at m) f places i refl))

-- ---- the others trade

-- all spaces are as they were where other frames are taken, given back or written
pub rest-untouched : OthersSpare
rest-untouched m k s n places others old new is low t j x e =
    Trades-untouched t x (is.each j x e) (beside-rest is old j low e)

-- and a machine stays one
pub rest-machine : OthersTrade
rest-machine m k s n places others after old new is free low t once moved =
    let stay = rest-untouched m k s n places others old new is low t in
    record {
      free = free;
      each = λ j x e. Trades-space t x (is.each j x e) (beside-rest is old j low e) free;
      shared = IsShared-trade t (all_held m places others) (all_held k places after) is.shared
          (λ f. omega (
            arith,
            moved f,
            all-count m places others f,
            all-count k places after f,
            ap (count_of f) (same-places (held_at m) (held_at k) places
                (λ j. same-held m k (get_or places j None) (λ x e. stay j x e))),
          ));
      alone = λ f some.
          let held : count_of f others ≤ holders_of m s f = omega (arith, all-count m places others f) in
          single free f (elim (cases_eq (count_of f others) 0) [
            | inl none ↦ omega (arith, once f, t.fresh f (omega (arith, low f)) (omega (arith, moved f)))
            | inr there ↦
                let one = one-holder is.free f (is.alone f (omega arith)) in
                elim (cases_eq (count_of f old) 0) [
                  | inl kept ↦ elim (cases_eq (count_of f new) 0) [
                    | inl none ↦ omega arith
                    | inr fresh ↦ absurd (omega (arith, t.fresh f kept (omega arith)))
                  ]
                  | inr given ↦ omega (arith, once f)
                ]
          ]);
    }

-- one of the others is written
pub Trades-write : (m k : Ram) (s : Frames) (f : ℕ) (w : List ℕ) → IsFreeList m s → 0 < holders_of m s f
    → further_at s f ≡ 0 → k ≡ slice_set m f w → Trades m k s s (f ∷ []) (f ∷ []) × IsFreeList k s
Trades-write m k s f w is some alone e =
    let len : length k ≡ length m = rw e (length-set m f w) in
    let other : (g : ℕ) → g ≢ f → frame_of k g ≡ frame_of m g = λ g ne. rw e (get_or-set_other m f g w [] ne) in
    let stays : (g : ℕ) → among g (free_of m s) ≡ true → frame_of k g ≡ frame_of m g = λ g at. other g (λ z.
    cc (ap (λ x. among x (free_of m s)) z, at, (held-inside m s f is some).1)) in
    let free : IsFreeList k s = IsFreeList-same m k s is len stays in (
      record {
        count = len;
        moved = λ g. omega (
          arith,
          holders-free is g,
          holders-free free g,
          ap (count_of g) (free_of-same m k s stays),
          ap (λ l. one_if (ltb g l)) len,
        );
        others = λ g h. other g (λ z. omega
            (arith, count_of-first g f [] z, ap (holders_of m s) z, one-holder is f alone));
        fresh = λ g none has. absurd (omega arith);
      },
      free,
    )

-- one of the others has a holder
pub rest-held : (m : Ram) (s : Frames) (places : List (Option Space)) (others : List ℕ) (f : ℕ)
    → IsMachine m s places others → 0 < count_of f others → 0 < holders_of m s f
rest-held m s places others f is some = omega (arith, all-count m places others f)

-- ---- a space is made beside the others, and gets a slot

-- and then it gets a slot that has none
pub settle-machine : NewSpaceSettles
settle-machine m s places others i y is hi none new = record {
  free = is.free;
  each = each-set (λ x. IsSpace m x s) places i (Some y) hi (λ x e. place-space m (Some y) s x new e)
      (λ j x ne e. is.each j x e);
  shared = record {
    each = λ f. omega (
      arith,
      all-count m places (others ++ holds m y) f,
      count_of-append f others (holds m y),
      all-count m (slice_set places i (Some y)) others f,
      set-place (held_at m) (held_at m) f places i (Some y) hi (λ j ne. refl),
      ap (λ o. count_of f (held_at m o)) none,
    );
  };
  alone = λ f some. is.alone f (omega (arith, count_of-append f others (holds m y)));
}

-- ---- how many frames are free

length-all : (m : Ram) (places : List (Option Space)) → length (flat_map (held_at m) places) ≡ sum_by frames_used places
length-all m [] = refl
length-all m (None ∷ xs) = length-all m xs ∙ (omega (arith, sum_by-cons frames_used None xs))
length-all m (Some x ∷ xs) =
    omega (
      arith,
      length-append (holds m x) (flat_map (held_at m) xs),
      length-held,
      length-all m xs,
      sum_by-cons frames_used (Some x) xs,
    )

-- what is free is what the counts leave
pub free-left : FreeAreTheRest
free-left m s places others is =
    omega (
      arith,
      shared-count is.free (all_held m places others) is.shared,
      length-append (flat_map (held_at m) places) others,
      length-all m places,
    )

-- ---- the start

pub none-flat : {X : Type 0} (g : Option X → List ℕ) (n : ℕ) → g None ≡ [] → flat_map g (replicate n None) ≡ []
none-flat g zero none = refl
none-flat g (suc n) none = ap (λ l. l ++ flat_map g (replicate n None)) none ∙ none-flat g n none

pub none-there : {X : Type 0} (n j : ℕ) (x : X) → get_or (replicate n None) j None ≡ Some x → ⊥
none-there zero j x e = cc
none-there (suc n) zero x e = cc
none-there (suc n) (suc j) x e = none-there n j x e

-- where all frames are free no slot has a space
pub machine-new : (m : Ram) (s : Frames) (n : ℕ) → IsFreeList m s → IsShared m s []
    → IsMachine m s (replicate n None) []
machine-new m s n free shared = record {
  free = free;
  each = λ j x e. absurd (none-there n j x e);
  shared = record { each = λ f. omega (arith, count_of-append, ap (count_of f) (none-flat (held_at m) n refl)) };
  alone = λ f some. absurd (omega arith);
}

-- ---- a machine stays one over a duplicate of its free frames

same-space : (m : Ram) (x : Space) (s n : Frames) → IsDuplicate s n → IsSpace m x s → IsSpace m x n
same-space m x s n is space = record {
  dense = space.dense;
  once = space.once;
  free = same-list is m space.free;
  own = λ f some. rw (same-further is f) (space.own f some);
  alone = λ p low writable. rw (same-further is _) (space.alone p low writable);
  held = λ f. rw (same-holders is m f) (space.held f);
}

pub same-machine : (m : Ram) (s n : Frames) (places : List (Option Space)) (others : List ℕ) → IsDuplicate s n
    → IsMachine m s places others → IsMachine m n places others
same-machine m s n places others is machine = record {
  free = same-list is m machine.free;
  each = λ j x at. same-space m x s n is (machine.each j x at);
  shared = same-shared is m (all_held m places others) machine.shared;
  alone = λ f some. rw (same-further is f) (machine.alone f some);
}
