-- Lemmas on holders.
use Rattle.ram.proofs.MemoryLemmas.{Ram}
use Rattle.std.proofs.Common.{◌≡◌, ◌≢◌, ℕ, zero, suc, ◌+◌, ◌-◌, ◌<◌, ◌≤◌, ◌⊎◌, inl, inr, Bool, true, false, nat_eq}
use Rattle.std.proofs.Common.{List, [], ◌∷◌, ◌++◌, length, refl, sym, ap, ◌∙◌, arith, eq-eqb, ltb, eqb, length-append}
use Rattle.std.proofs.Common.{get_or}
use Rattle.std.proofs.lemmas.Bool.{cases_eq, cases_lt, le-ltb, lt-ltb, ne_eqb}
use Rattle.std.proofs.lemmas.List.Sums.{sum_by-cons}
use Rattle.std.specs.List.{IsDistinct, range_with_len, sum_by}
use Rattle.ram.specs.Memory.{frame_of}
use Rattle.frames.specs.declared.Frames.{Frames}
use Rattle.frames.specs.Free.{among, counted, free_count, free_of, further_at, less_one, extra_of, IsFreeList}
use Rattle.frames.specs.Free.{IsDuplicate}
use Rattle.frames.proofs.FreeLemmas.{apart-not, further-is, further-free, further-past, shared-is, not_free}
use Rattle.frames.specs.Holders.{one_if, count_of, holders_of, IsShared, Trades}

pub one_if-le : (b : Bool) → one_if b ≤ 1
one_if-le true = omega arith
one_if-le false = omega arith

pub count_of-append : (f : ℕ) (xs ys : List ℕ) → count_of f (xs ++ ys) ≡ count_of f xs + count_of f ys
count_of-append f [] ys = omega arith
count_of-append f (x ∷ xs) ys = omega (arith, count_of-append f xs ys)

pub count_of-first : (f g : ℕ) (xs : List ℕ) → f ≡ g → count_of f (g ∷ xs) ≡ 1 + count_of f xs
count_of-first f g xs e = rw (eq-eqb f g e) refl

pub count_of-other : (f g : ℕ) (xs : List ℕ) → f ≢ g → count_of f (g ∷ xs) ≡ count_of f xs
count_of-other f g xs ne = rw (ne_eqb f g ne) (omega arith)

-- a frame that occurs nowhere in this list is not among it
pub among-none : (f : ℕ) (xs : List ℕ) → count_of f xs ≡ 0 → among f xs ≡ false
among-none f [] h = refl
among-none f (x ∷ xs) h = elim (cases_eq f x) [
  | inl same ↦ absurd (omega (arith, count_of-first f x xs same))
  | inr other ↦ rw (ne_eqb f x other) (among-none f xs (omega (arith, count_of-other f x xs other)))
]

pub none-among : (f : ℕ) (xs : List ℕ) → among f xs ≡ false → count_of f xs ≡ 0
none-among f [] h = refl
none-among f (x ∷ xs) h = elim (cases_eq f x) [
  | inl same ↦ absurd (cc (rw (eq-eqb f x same) at h))
  | inr other ↦ rw (count_of-other f x xs other) (none-among f xs (rw (ne_eqb f x other) at h))
]

pub distinct-count : (f : ℕ) (xs : List ℕ) → IsDistinct nat_eq xs → count_of f xs ≤ 1
unfolding IsDistinct
distinct-count f [] h = omega arith
distinct-count f (x ∷ xs) h = elim (cases_eq f x) [
  | inl same ↦ omega (
    arith,
    count_of-first f x xs same,
    ap (λ g. count_of g xs) same,
    none-among x xs (apart-not x xs h.0),
  )
  | inr other ↦ rw (count_of-other f x xs other) (distinct-count f xs h.1)
]

-- a frame is among these, or doesn't occur there
pub count-cases : (f : ℕ) (xs : List ℕ) → (among f xs ≡ true) ⊎ (count_of f xs ≡ 0)
count-cases f xs = elim (among f xs) as (λ b. among f xs ≡ b → (among f xs ≡ true) ⊎ (count_of f xs ≡ 0))
    [ true ↦ λ e. inl e | false ↦ λ e. inr (none-among f xs e) ] refl

pub among-count : (f : ℕ) (xs : List ℕ) → among f xs ≡ true → 0 < count_of f xs
among-count f xs at = elim (cases_eq (count_of f xs) 0) [
  | inl z ↦ absurd (cc (at, among-none f xs z))
  | inr some ↦ omega arith
]

-- what a free list says of a frame
module _ {m : Ram} {s : Frames} (is : IsFreeList m s) where
  -- a frame of the memory is free or has a holder, and some have more
  pub holders-free : (f : ℕ) → holders_of m s f + count_of f (free_of m s) ≡ one_if (ltb f (length m)) + further_at s f
  unfolding holders_of
  holders-free f = elim (count-cases f (free_of m s)) [
    | inl at ↦ let e = lt-ltb f (length m) (is.inside f at)
        in rw e (omega (arith, distinct-count f (free_of m s) is.distinct))
    | inr none ↦ rw none (omega arith)
  ]

  -- the table counts the holders
  pub holders-counted : (f : ℕ) → f < length m → holders_of m s f ≡ counted s f
  holders-counted f low =
      let sum = holders-free f in
      let one = ap one_if (lt-ltb f (length m) low) in
      elim (count-cases f (free_of m s)) [
        | inl at ↦ omega (arith, further-is s f, among-count f (free_of m s) at)
        | inr none ↦ omega (arith, further-is s f, is.some f low (among-none f (free_of m s) none))
      ]

-- a frame with a holder is one of the memory, and isn't free
pub held-inside : (m : Ram) (s : Frames) (f : ℕ) → IsFreeList m s → 0 < holders_of m s f
    → (f < length m) × (among f (free_of m s) ≡ false)
held-inside m s f is some =
    let sum = holders-free is f in
    let low : f < length m =
    elim (cases_lt f (length m)) [
      | inl low ↦ low
      | inr past ↦ absurd
          (omega (arith, ap one_if (le-ltb f (length m) past), further-past is f past))
    ] in
    (low, not_free is f (omega (arith, holders-counted is f low)))

count_of-range : (f a n : ℕ) → a ≤ f → f < a + n → 1 ≤ count_of f (range_with_len a n)
count_of-range f a zero low high = absurd (omega arith)
count_of-range f a (suc n) low high = elim (cases_eq f a) [
  | inl same ↦ omega (arith, count_of-first f a (range_with_len (a + 1) n) same)
  | inr other ↦ rw (count_of-other f a (range_with_len (a + 1) n) other)
      (count_of-range f (a + 1) n (omega arith) (omega arith))
]

module _ {m : Ram} {s : Frames} (is : IsFreeList m s) where
  -- one that isn't free has a holder
  pub not-free-held : (f : ℕ) → f < length m → among f (free_of m s) ≡ false → holders_of m s f ≡ 1 + further_at s f
  not-free-held f low absent =
      omega (arith, holders-free is f, ap one_if (lt-ltb f (length m) low), none-among f (free_of m s) absent)

  -- one with no more than one holder has no further one
  pub single : (f : ℕ) → holders_of m s f ≤ 1 → further_at s f ≡ 0
  single f few = elim (cases_lt f (length m)) [
    | inl low ↦ omega (arith, further-is s f, holders-counted is f low)
    | inr past ↦ further-past is f past
  ]

  -- one that isn't shared has no more than one
  pub one-holder : (f : ℕ) → further_at s f ≡ 0 → holders_of m s f ≤ 1
  one-holder f alone = omega (arith, holders-free is f, one_if-le (ltb f (length m)))

  -- a free frame has none
  pub free-holders : (f : ℕ) → among f (free_of m s) ≡ true → holders_of m s f ≡ 0
  free-holders f at = omega
      (arith, holders-free is f, one_if-le (ltb f (length m)), further-free is f at, among-count f (free_of m s) at)

  -- where all frames are free nobody holds one
  pub IsShared-new : free_of m s ≡ range_with_len 0 (length m) → ((f : ℕ) → further_at s f ≡ 0) → IsShared m s []
  IsShared-new e alone = record {
    each = λ f.
        let sum = holders-free is f in
        elim (cases_lt f (length m)) [
          | inl low ↦ omega (
            arith,
            alone f,
            ap one_if (lt-ltb f (length m) low),
            ap (count_of f) e,
            count_of-range f 0 (length m) (omega arith) (omega arith),
          )
          | inr high ↦ omega (arith, alone f, ap one_if (le-ltb f (length m) high))
        ];
  }

-- ---- how many frames are held

-- the sum of a number for each frame below n
abbrev pub sum_below : ℕ → (ℕ → ℕ) → ℕ
sum_below zero g = 0
sum_below (suc n) g = g n + sum_below n g

sum_below-zero : (n : ℕ) (g : ℕ → ℕ) → ((f : ℕ) → f < n → g f ≡ 0) → sum_below n g ≡ 0
sum_below-zero zero g h = refl
sum_below-zero (suc n) g h = omega (arith, h n (omega arith), sum_below-zero n g (λ f l. h f (omega arith)))

pub sum_below-same : (n : ℕ) (g h : ℕ → ℕ) → ((f : ℕ) → f < n → g f ≡ h f) → sum_below n g ≡ sum_below n h
sum_below-same zero g h same = refl
sum_below-same (suc n) g h same =
    omega (arith, same n (omega arith), sum_below-same n g h (λ f l. same f (omega arith)))

pub sum_below-plus : (n : ℕ) (g h : ℕ → ℕ) → sum_below n (λ f. g f + h f) ≡ sum_below n g + sum_below n h
sum_below-plus zero g h = refl
sum_below-plus (suc n) g h = omega (arith, sum_below-plus n g h)

sum_below-first : (n : ℕ) (g : ℕ → ℕ) → sum_below (suc n) g ≡ g 0 + sum_below n (λ f. g (suc f))
sum_below-first zero g = refl
sum_below-first (suc n) g = omega (arith, sum_below-first n g)

sum_below-list : (h : ℕ → ℕ) (xs : List ℕ) → sum_below (length xs) (λ f. h (get_or xs f 0)) ≡ sum_by h xs
sum_below-list h [] = refl
sum_below-list h (x ∷ xs) = sum_below-first (length xs) (λ f. h (get_or (x ∷ xs) f 0))
    ∙ ap (λ n. h x + n) (sum_below-list h xs) ∙ sym (sum_by-cons h x xs)

sum_below-one : (n x : ℕ) (g : ℕ → ℕ) → x < n → sum_below n (λ f. one_if (eqb f x) + g f) ≡ 1 + sum_below n g
sum_below-one zero x g h = absurd (omega arith)
sum_below-one (suc n) x g h = elim (cases_eq n x) [
  | inl same ↦ rw (eq-eqb n x same)
      (omega (
        arith,
        sum_below-same n (λ f. one_if (eqb f x) + g f) g
            (λ f l. let ne : f ≢ x = omega arith in rw (ne_eqb f x ne) (omega arith)),
      ))
  | inr other ↦ rw (ne_eqb n x other) (omega (arith, sum_below-one n x g (omega arith)))
]

-- a list of frames below n is as long as the sum of how often each occurs
pub length-counts : (xs : List ℕ) (n : ℕ) → ((f : ℕ) → n ≤ f → count_of f xs ≡ 0)
    → length xs ≡ sum_below n (λ f. count_of f xs)
length-counts [] n h = sym (sum_below-zero n (λ f. 0) (λ f l. refl))
length-counts (x ∷ xs) n h =
    let low : x < n = elim (cases_lt x n)
    [ inl l ↦ l | inr g ↦ absurd (omega (arith, h x g, count_of-first x x xs refl)) ] in
    rw (sum_below-one n x (λ f. count_of f xs) low) (omega (arith, length-counts xs n (λ f l. omega (arith, h f l))))

sum_below-ones : (n : ℕ) → sum_below n (λ f. 1) ≡ n
sum_below-ones zero = refl
sum_below-ones (suc n) = omega (arith, sum_below-ones n)

module _ {m : Ram} {s : Frames} (is : IsFreeList m s) where
  -- all further holders
  pub further-sum : sum_below (length m) (further_at s) ≡ s.shared
  further-sum =
      sum_below-same (length m) (further_at s) (λ f. less_one (get_or s.holders.items f 0)) (λ f l. further-is s f)
      ∙ ap (λ n. sum_below n (λ f. less_one (get_or s.holders.items f 0))) (sym is.size)
      ∙ sum_below-list less_one s.holders.items
      ∙ sym is.sum

  -- frames that are held, those that hold the rest, and what is free are all frames of the memory
  accounted : (old : List ℕ) (rest : ℕ → ℕ) → ((f : ℕ) → count_of f old + rest f ≡ holders_of m s f)
      → free_count m s + length old + sum_below (length m) rest ≡ length m
  accounted old rest all =
      let both : (f : ℕ) → count_of f (free_of m s ++ old) + rest f ≡ one_if (ltb f (length m)) + further_at s f =
      λ f. omega (arith, count_of-append f (free_of m s) old, all f, holders-free is f) in
      let sums : sum_below (length m) (λ f. count_of f (free_of m s ++ old) + rest f)
      ≡ sum_below (length m) (λ f. 1 + further_at s f) =
      sum_below-same (length m) (λ f. count_of f (free_of m s ++ old) + rest f) (λ f. 1 + further_at s f)
      (λ f l. omega (arith, both f, ap one_if (lt-ltb f (length m) l))) in
      omega (
        arith,
        sum_below-plus (length m) (λ f. count_of f (free_of m s ++ old)) rest,
        sum_below-plus (length m) (λ f. 1) (further_at s),
        sum_below-ones (length m),
        further-sum,
        length-counts (free_of m s ++ old) (length m)
            (λ f l. omega (arith, both f, ap one_if (le-ltb f (length m) l), further-past is f l)),
        length-append (free_of m s) old,
        shared-is s,
      )

  -- what the holders hold, frames that are shared as often as they are, and what is free are all frames of the memory
  pub shared-count : (all : List ℕ) → IsShared m s all → free_count m s + length all ≡ length m
  shared-count hs all = omega
      (arith, accounted hs (λ f. 0) (λ f. omega arith), sum_below-zero (length m) (λ f. 0) (λ f l. refl))

  -- frames that are held as often as they have holders at the most, and the free ones, are no more than the memory has
  pub held-count : (old : List ℕ) → ((f : ℕ) → count_of f old ≤ holders_of m s f)
      → free_count m s + length old ≤ length m
  held-count old all = omega (arith, accounted old (λ f. holders_of m s f - count_of f old) (λ f. omega (arith, all f)))

module _ {m k : Ram} {s n : Frames} {old new : List ℕ} (t : Trades m k s n old new) where
  -- after a trade of one holder the holders still hold all that is not free
  pub IsShared-trade : (all after : List ℕ) → IsShared m s all
      → ((f : ℕ) → count_of f after + count_of f old ≡ count_of f all + count_of f new) → IsShared k n after
  IsShared-trade all after is e = record { each = λ f. omega (arith, e f) }

  -- what another holder holds keeps its bytes
  pub Trades-beside : (other : List ℕ) → ((f : ℕ) → count_of f old + count_of f other ≤ holders_of m s f) → (f : ℕ)
      → 0 < count_of f other → frame_of k f ≡ frame_of m f
  Trades-beside other room f h = t.others f (omega (arith, room f))

  -- what a trade takes is no longer free
  pub Trades-lengths : IsFreeList m s → IsFreeList k n → ((f : ℕ) → count_of f old ≤ holders_of m s f)
      → free_count k n + length new ≡ free_count m s + length old
  Trades-lengths is_m is_k room =
      let rest = λ (f : ℕ). holders_of m s f - count_of f old in
      omega (
        arith,
        accounted is_m old rest (λ f. omega (arith, room f)),
        accounted is_k new rest (λ f. omega (arith, room f)),
        ap (λ l. sum_below l rest) t.count,
      )

-- ---- a duplicate says of a memory what its source says

module _ {s n : Frames} (is : IsDuplicate s n) where
  pub same-free : (m : Ram) → free_of m n ≡ free_of m s
  unfolding free_of
  same-free m = rw (is.count, is.first) refl

  pub same-extra : extra_of n ≡ extra_of s
  unfolding extra_of
  same-extra = rw (is.holders, is.shared) refl

  pub same-further : (f : ℕ) → further_at n f ≡ further_at s f
  same-further f = rw (same-extra) refl

  pub same-holders : (m : Ram) (f : ℕ) → holders_of m n f ≡ holders_of m s f
  unfolding holders_of
  same-holders m f = rw (same-free m, same-extra) refl

  pub same-list : (m : Ram) → IsFreeList m s → IsFreeList m n
  same-list m list =
      let free = same-free m in
      record {
        inside = rw free list.inside;
        distinct = rw free list.distinct;
        size = rw is.holders list.size;
        none = rw (free, is.holders) list.none;
        some = rw (free, is.holders) list.some;
        sum = rw (is.shared, is.holders) list.sum;
        room = rw (free, is.shared) list.room;
      }

  pub same-shared : (m : Ram) (all : List ℕ) → IsShared m s all → IsShared m n all
  same-shared m all shared = record { each = λ f. shared.each f ∙ sym (same-holders m f) }
