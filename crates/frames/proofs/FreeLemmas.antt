-- Lemmas on free lists.
use Rattle.std.proofs.Common.{◌≡◌, ◌≢◌, ℕ, zero, suc, ◌+◌, ◌-◌, ◌<◌, ◌≤◌, ◌⊎◌, inl, inr, true, false, nat_eq, List, []}
use Rattle.std.proofs.Common.{◌∷◌, length, refl, sym, ap, ◌∙◌, arith, add-one, ◌^◌, eq-eqb, ◌||◌, slice_set, length-set}
use Rattle.std.proofs.Common.{get_or, get_or-set_other, get_or-set_same, replicate}
use Rattle.std.proofs.lemmas.Grind.{common_steps, get_or_default_zero}
use Rattle.std.proofs.lemmas.Map.Steps.{length-le_from_distinct_below}
use Rattle.std.proofs.lemmas.Bool.{cases_eq, cases_lt, ne_eqb}
use Rattle.std.proofs.Math.ListN.{get_or-map}
use Rattle.std.proofs.Math.Seq.{map-set_same}
use Rattle.std.proofs.lemmas.List.{get_or_past, get_or-replicate, length-replicate}
use Rattle.std.proofs.lemmas.List.Sums.{sum_by-cons, sum_by-set, get_or-le-sum_by}
use Rattle.std.specs.List.{IsDistinct, AllByRecursion, range_with_len, sum_by}
use Rattle.ram.specs.Memory.{frame_of, word_of, IsMemory, put, word_bytes}
use Rattle.ram.proofs.MemoryLemmas.{Ram, word_of-frame, word_of-put_same, frame_of-put_other, length-put}
use Rattle.frames.specs.declared.Frames.{Frames}
use Rattle.frames.specs.Free.{among, chain, free_of, counted, less_one, extra_of, further_at, free_count, IsFreeList}
use Rattle.frames.specs.Free.{SameBut}

pub length-chain : (m : Ram) (n first : ℕ) → length (chain m n first) ≡ n
unfolding chain
length-chain m zero first = refl
length-chain m (suc n) first = ap suc (length-chain m n (word_of m first 0 4))

pub length-free_of : (m : Ram) (s : Frames) → length (free_of m s) ≡ s.count
unfolding free_of
length-free_of m s = length-chain m s.count s.first.0

pub among_first : (f : ℕ) (fs : List ℕ) → among f (f ∷ fs) ≡ true
among_first f fs = rw (eq-eqb f f refl) refl

pub among_later : (f g : ℕ) (fs : List ℕ) → among f fs ≡ true → among f (g ∷ fs) ≡ true
among_later f g fs h = elim (nat_eq f g) as (λ b. b || among f fs ≡ true) [ true ↦ refl | false ↦ h ]

or_false : (f g : ℕ) (fs : List ℕ) → among f (g ∷ fs) ≡ false → among f fs ≡ false
or_false f g fs h = grind (arith, common_steps)

pub among_first_not : (f g : ℕ) (fs : List ℕ) → among f (g ∷ fs) ≡ false → (f ≢ g) × (among f fs ≡ false)
among_first_not f g fs h = (λ e. cc (rw (eq-eqb f g e) at h), or_false f g fs h)

-- the list is the same where its frames are
pub chain-same : (m k : Ram) (n first : ℕ) → ((g : ℕ) → among g (chain m n first) ≡ true → frame_of k g ≡ frame_of m g)
    → chain k n first ≡ chain m n first
unfolding chain
chain-same m k zero first h = refl
chain-same m k (suc n) first h =
    let next = word_of m first 0 4 in
    let same : word_of k first 0 4 ≡ next =
    word_of-frame k m first first 0 4 (h first (among_first first (chain m n next))) in
    ap (λ x. first ∷ chain k n x) same
    ∙ ap (λ l. first ∷ l) (chain-same m k n next (λ g at. h g (among_later g first (chain m n next) at)))

-- the free list outlives a change of other frames
pub free_of-same : (m k : Ram) (s : Frames) → ((g : ℕ) → among g (free_of m s) ≡ true → frame_of k g ≡ frame_of m g)
    → free_of k s ≡ free_of m s
unfolding free_of
free_of-same m k s h = chain-same m k s.count s.first.0 h

pub IsFreeList-same : (m k : Ram) (s : Frames) → IsFreeList m s → length k ≡ length m
    → ((g : ℕ) → among g (free_of m s) ≡ true → frame_of k g ≡ frame_of m g) → IsFreeList k s
IsFreeList-same m k s is len h =
    let same : free_of k s ≡ free_of m s = free_of-same m k s h in
    record {
      inside = λ f at. rw len (is.inside f (rw (← same) at));
      distinct = rw same is.distinct;
      size = is.size ∙ sym len;
      none = λ f at. is.none f (rw (← same) at);
      some = λ f low absent. is.some f (rw (← len) low) (rw (← same) absent);
      sum = is.sum;
      room = rw same is.room;
    }

pub chain-step : (m : Ram) (n first : ℕ) → n ≢ 0 → chain m n first ≡ first ∷ chain m (n - 1) (word_of m first 0 4)
unfolding chain
chain-step m zero first ne = absurd (ne refl)
chain-step m (suc n) first ne = let e : suc n - 1 ≡ n = omega arith in rw e refl

-- the first free frame is taken
pub free_of-take : (m : Ram) (s t : Frames) → s.count ≢ 0 → t.first.0 ≡ word_of m s.first.0 0 4 → t.count ≡ s.count - 1
    → free_of m s ≡ s.first.0 ∷ free_of m t
unfolding free_of
free_of-take m s t ne first count = chain-step m s.count s.first.0 ne
    ∙ ap (λ n. s.first.0 ∷ chain m n (word_of m s.first.0 0 4)) (sym count)
    ∙ ap (λ f. s.first.0 ∷ chain m t.count f) (sym first)

-- ---- the counts of holders

pub further-is : (s : Frames) (f : ℕ) → further_at s f ≡ counted s f - 1
unfolding extra_of
further-is s f = get_or-map less_one s.holders.items f 0

pub shared-is : (s : Frames) → (extra_of s).1 ≡ s.shared
unfolding extra_of
shared-is s = refl

-- a count is new, and no further holder
table-same : (s t : Frames) (f x : ℕ) → t.holders.items ≡ slice_set s.holders.items f x → t.shared ≡ s.shared
    → less_one x ≡ less_one (counted s f) → extra_of t ≡ extra_of s
unfolding extra_of
table-same s t f x items shared e =
    rw (items, shared) (ap (λ (l : List ℕ). (l, s.shared)) (map-set_same less_one s.holders.items f x 0 e))

counted-same : (s t : Frames) (f x : ℕ) → t.holders.items ≡ slice_set s.holders.items f x → f < length s.holders.items
    → counted t f ≡ x
counted-same s t f x items low = ap (λ l. get_or l f 0) items ∙ get_or-set_same s.holders.items f x 0 low

counted-other : (s t : Frames) (f g x : ℕ) → t.holders.items ≡ slice_set s.holders.items f x → g ≢ f
    → counted t g ≡ counted s g
counted-other s t f g x items ne = ap (λ l. get_or l g 0) items ∙ get_or-set_other s.holders.items f g x 0 ne

size-set : (s t : Frames) (f x n : ℕ) → t.holders.items ≡ slice_set s.holders.items f x → length s.holders.items ≡ n
    → length t.holders.items ≡ n
size-set s t f x n items size = ap length items ∙ length-set s.holders.items f x ∙ size

sum-set : (s t : Frames) (f x : ℕ) → t.holders.items ≡ slice_set s.holders.items f x → f < length s.holders.items
    → sum_by less_one t.holders.items + less_one (counted s f) ≡ sum_by less_one s.holders.items + less_one x
sum-set s t f x items low = ap (λ l. sum_by less_one l + less_one (counted s f)) items
    ∙ sum_by-set less_one s.holders.items f x 0 low

module _ {m : Ram} {s : Frames} (is : IsFreeList m s) where
  -- a free frame has no holder beyond the first, which it lacks too
  pub further-free : (f : ℕ) → among f (free_of m s) ≡ true → further_at s f ≡ 0
  further-free f at = omega (arith, further-is s f)

  -- and neither has what is no frame
  pub further-past : (f : ℕ) → length m ≤ f → further_at s f ≡ 0
  further-past f past = omega (arith, further-is s f, get_or_past s.holders.items f 0 (omega arith))

  pub not_free : (f : ℕ) → 0 < counted s f → among f (free_of m s) ≡ false
  not_free f some = elim (among f (free_of m s)) as (λ b. among f (free_of m s) ≡ b → b ≡ false)
      [ true ↦ λ e. absurd (omega arith) | false ↦ λ e. refl ] refl

  -- one with a further holder is held
  pub further-held : (f : ℕ) → 0 < further_at s f → (among f (free_of m s) ≡ false) × (f < length m)
  further-held f some = (
    not_free f (omega (arith, further-is s f)),
    elim (cases_lt f (length m)) [ inl low ↦ low | inr past ↦ absurd (omega (arith, further-past f past)) ],
  )

pub apart-not : (f : ℕ) (fs : List ℕ) → AllByRecursion (λ y. nat_eq f y ≡ false) fs → among f fs ≡ false
apart-not f [] h = refl
apart-not f (g ∷ fs) h = rw h.0 (apart-not f fs h.1)

among-other : (f g : ℕ) (fs : List ℕ) → g ≢ f → among g (f ∷ fs) ≡ among g fs
among-other f g fs ne = rw (ne_eqb g f ne) refl

-- Frame f has another count of holders, and is free if that is 0. The other frames are free if they were.
IsFreeList-set : (m k : Ram) (s t : Frames) (f x : ℕ) → IsFreeList m s → length k ≡ length m → f < length m
    → t.holders.items ≡ slice_set s.holders.items f x
    → ((g : ℕ) → g ≢ f → among g (free_of k t) ≡ among g (free_of m s))
    → (among f (free_of k t) ≡ true → x ≡ 0) → (among f (free_of k t) ≡ false → 0 < x)
    → IsDistinct nat_eq (free_of k t) → t.shared + less_one (counted s f) ≡ s.shared + less_one x
    → t.shared ≤ length (free_of k t) → IsFreeList k t
IsFreeList-set m k s t f x is len inside items others free held distinct shared room =
    let low : f < length s.holders.items = omega arith in
    let here = counted-same s t f x items low in
    record {
      inside = λ g at. elim (cases_eq g f)
          [ inl same ↦ omega arith | inr other ↦ omega (arith, is.inside g (sym (others g other) ∙ at)) ];
      distinct = distinct;
      size = size-set s t f x (length k) items (is.size ∙ sym len);
      none = λ g at. elim (cases_eq g f) [
        | inl same ↦ rw same (here ∙ free (rw same at at))
        | inr other ↦ counted-other s t f g x items other
            ∙ is.none g (sym (others g other) ∙ at)
      ];
      some = λ g within out. elim (cases_eq g f) [
        | inl same ↦ rw (same, here) (held (rw same at out))
        | inr other ↦ omega (
          arith,
          counted-other s t f g x items other,
          is.some g (omega arith) (sym (others g other) ∙ out),
        )
      ];
      sum = omega (arith, sum-set s t f x items low);
      room = room;
    }

pub IsFreeList-take : (m : Ram) (s t : Frames) (f : ℕ) → IsFreeList m s → free_of m s ≡ f ∷ free_of m t
    → t.holders.items ≡ slice_set s.holders.items f 1 → t.shared ≡ s.shared → s.shared < length (free_of m s)
    → IsFreeList m t × (extra_of t ≡ extra_of s)
unfolding IsDistinct
IsFreeList-take m s t f is e items shared room =
    let here : among f (free_of m s) ≡ true = rw e (among_first f (free_of m t)) in
    let zero_before : counted s f ≡ 0 = is.none f here in
    let first = rw e at is.distinct in (
      IsFreeList-set m m s t f 1 is refl (is.inside f here) items
          (λ g ne. sym (ap (among g) e ∙ among-other f g (free_of m t) ne))
          (λ at. absurd (cc (apart-not f (free_of m t) first.0, at))) (λ _. omega arith)
          first.1 (omega arith) (omega (arith, ap length e)),
      table-same s t f 1 items shared (ap less_one (sym zero_before)),
    )

first_not : (f g : ℕ) (fs : List ℕ) → among f (g ∷ fs) ≡ false → nat_eq f g ≡ false
first_not f g fs h = grind (arith, common_steps)

apart : (f : ℕ) (fs : List ℕ) → among f fs ≡ false → AllByRecursion (λ y. nat_eq f y ≡ false) fs
apart f [] h = tt
apart f (g ∷ fs) h = (first_not f g fs h, apart f fs (or_false f g fs h))

distinct_first : (f : ℕ) (fs : List ℕ) → among f fs ≡ false → IsDistinct nat_eq fs → IsDistinct nat_eq (f ∷ fs)
unfolding IsDistinct
distinct_first f fs absent is = (apart f fs absent, is)

-- a frame that is given back comes first
pub free_of-give : (m : Ram) (s t : Frames) (f : ℕ) → IsMemory m → f < length m → s.first.0 < 256 ^ 4
    → among f (free_of m s) ≡ false → t.first.0 ≡ f → t.count ≡ s.count + 1
    → free_of (put m f 0 (word_bytes 4 s.first.0)) t ≡ f ∷ free_of m s
unfolding free_of chain
free_of-give m s t f mem inside fits absent first count =
    let k = put m f 0 (word_bytes 4 s.first.0) in
    let next : word_of k f 0 4 ≡ s.first.0 = word_of-put_same m f 0 4 s.first.0 mem inside (omega arith) fits in
    rw (first, count, add-one)
    (ap (λ l. f ∷ l) (ap (λ x. chain k s.count x) next
    ∙ chain-same m k s.count s.first.0
    (λ g at. frame_of-put_other m f 0 (word_bytes 4 s.first.0) g (λ e. cc (rw (← e) at absent)))))

pub IsFreeList-give : (m k : Ram) (s t : Frames) (f : ℕ) → IsFreeList m s → length k ≡ length m → f < length m
    → among f (free_of m s) ≡ false → free_of k t ≡ f ∷ free_of m s
    → t.holders.items ≡ slice_set s.holders.items f 0 → t.shared ≡ s.shared → further_at s f ≡ 0
    → IsFreeList k t × (extra_of t ≡ extra_of s)
IsFreeList-give m k s t f is len inside absent e items shared last =
    let one_before : less_one (counted s f) ≡ 0 = sym (further-is s f) ∙ last in (
      IsFreeList-set m k s t f 0 is len inside items (λ g ne. ap (among g) e ∙ among-other f g (free_of m s) ne)
          (λ _. refl) (λ out. absurd (cc (among_first f (free_of m s), ap (among f) e, out)))
          (rw e (distinct_first f (free_of m s) absent is.distinct)) (omega arith) (omega (arith, ap length e)),
      table-same s t f 0 items shared (sym one_before),
    )

-- a frame with a holder has another count of them
pub IsFreeList-count : (m : Ram) (s t : Frames) (f x : ℕ) → IsFreeList m s → f < length m → 0 < counted s f → 0 < x
    → free_of m t ≡ free_of m s
    → t.holders.items ≡ slice_set s.holders.items f x → t.shared + counted s f ≡ s.shared + x
    → t.shared ≤ length (free_of m s) → IsFreeList m t
IsFreeList-count m s t f x is inside held new e items shared room =
    IsFreeList-set m m s t f x is refl inside items (λ g _. ap (among g) e)
    (λ at. absurd (omega (arith, is.none f (rw e at at)))) (λ _. new) (rw e is.distinct) (omega arith)
    (omega (arith, ap length e))

-- how many further holders frames have then
pub further-count : (s t : Frames) (f x g : ℕ) → f < length s.holders.items
    → t.holders.items ≡ slice_set s.holders.items f x
    → ((g ≡ f) × (further_at t g ≡ x - 1) × (further_at s g ≡ counted s f - 1))
    ⊎ ((g ≢ f) × (further_at t g ≡ further_at s g))
further-count s t f x g low items = elim (cases_eq g f) [
  | inl same ↦ inl (
    same,
    further-is t g
        ∙ ap less_one (ap (counted t) same ∙ counted-same s t f x items low),
    further-is s g
        ∙ ap (λ h. less_one (counted s h)) same,
  )
  | inr other ↦ inr (other, further-is t g ∙ ap less_one (counted-other s t f g x items other) ∙ sym (further-is s g))
]

pub SameBut-put : (m : Ram) (f o : ℕ) (bs : List ℕ) → SameBut (f ∷ []) m (put m f o bs)
SameBut-put m f o bs = record {
  count = length-put m f o bs;
  others = λ g absent. frame_of-put_other m f o bs g (among_first_not g f [] absent).0;
}

pub free_of-none : (m : Ram) (s : Frames) → s.count ≡ 0 → free_of m s ≡ []
unfolding free_of chain
free_of-none m s e = rw e refl

module _ {m : Ram} {s : Frames} (is : IsFreeList m s) where
  -- there are no more free frames than frames
  pub count-le : s.count ≤ length m
  count-le = rw (← length-free_of m s) (length-le_from_distinct_below (free_of m s) (length m) is.distinct is.inside)

  -- a further holder is one of the sum
  pub further-le : (f : ℕ) → f < length m → counted s f ≤ s.shared + 1
  further-le f inside = omega (arith, get_or-le-sum_by less_one s.holders.items f 0 (omega arith))

  -- the first free frame is one of the memory
  pub free_of-first : s.count ≢ 0 → s.first.0 < length m
  unfolding free_of
  free_of-first ne = is.inside s.first.0
      (rw (chain-step m s.count s.first.0 ne) (among_first s.first.0 (chain m (s.count - 1) (word_of m s.first.0 0 4))))

-- ---- the list of all frames

replicate-one : (n i : ℕ) → i < n → get_or (replicate {A = ℕ} n 1) i 0 ≡ 1
replicate-one n i low = get_or-replicate {A = ℕ} n i 1 0 low

sum-ones : (n : ℕ) → sum_by less_one (replicate n 1) ≡ 0
sum-ones zero = refl
sum-ones (suc n) = omega (arith, sum_by-cons less_one 1 (replicate {A = ℕ} n 1), sum-ones n)

-- where each frame has a holder none is free
pub IsFreeList-none : (m : Ram) (s : Frames) → free_of m s ≡ [] → s.holders.items ≡ replicate (length m) 1
    → s.shared ≡ 0 → IsFreeList m s
unfolding IsDistinct
IsFreeList-none m s none items shared = record {
  inside = λ f at. absurd (cc (rw none at at));
  distinct = rw none tt;
  size = ap length items ∙ length-replicate (length m) 1;
  none = λ f at. absurd (cc (rw none at at));
  some = λ f low absent. omega (arith, ap (λ l. get_or l f 0) items, replicate-one (length m) f low);
  sum = shared ∙ sym (ap (sum_by less_one) items ∙ sum-ones (length m));
  room = omega arith;
}

further-ones : (n f : ℕ) → less_one (get_or (replicate n 1) f 0) ≡ 0
further-ones n f = elim (cases_lt f n) [
  | inl low ↦ ap less_one (replicate-one n f low)
  | inr past ↦ ap less_one (get_or_past (replicate n 1) f 0 (rw (length-replicate {A = ℕ} n 1) past))
]

pub further-none : (s : Frames) (n f : ℕ) → s.holders.items ≡ replicate n 1 → further_at s f ≡ 0
further-none s n f items = further-is s f ∙ ap (λ l. less_one (get_or l f 0)) items ∙ further-ones n f

-- a range has no frame below it
pub among-range_below : (f a n : ℕ) → f < a → among f (range_with_len a n) ≡ false
among-range_below f a zero h = refl
among-range_below f a (suc n) h = rw (ne_eqb f a (omega arith)) (among-range_below f (a + 1) n (omega arith))

-- a range and the frame before it
pub range-before : (a b i : ℕ) → a + 1 ≡ b → range_with_len a (i + 1) ≡ a ∷ range_with_len b i
range-before a b i e = rw (add-one, ← e) refl

-- ---- how many could be taken

pub some-free : (m : Ram) (s : Frames) → 0 < free_count m s → (s.shared < length (free_of m s)) × (s.count ≢ 0)
some-free m s h = (omega (arith, shared-is s), λ e. omega (arith, length-free_of m s))

pub free_count-fewer : (m : Ram) (s t : Frames) → free_of m t ≡ free_of m s → s.shared < length (free_of m s)
    → t.shared ≡ s.shared + 1 → free_count m s ≡ free_count m t + 1
free_count-fewer m s t e room shared = omega (arith, shared-is s, shared-is t, ap length e)

pub free_count-more : (m : Ram) (s t : Frames) → free_of m t ≡ free_of m s → s.shared ≤ length (free_of m s)
    → t.shared + 1 ≡ s.shared → free_count m t ≡ free_count m s + 1
free_count-more m s t e room shared = omega (arith, shared-is s, shared-is t, ap length e)

-- a frame comes into the list, or goes, and no further holder with it
pub free_count-list : (m k : Ram) (s t : Frames) (f : ℕ) → s.shared ≤ length (free_of m s)
    → free_of k t ≡ f ∷ free_of m s → extra_of t ≡ extra_of s → free_count k t ≡ free_count m s + 1
free_count-list m k s t f room e same = omega (arith, shared-is s, ap length e, ap (λ (x : List ℕ × ℕ). x.1) same)

module _ {m : Ram} {s : Frames} (is : IsFreeList m s) where
  pub none-free : free_count m s ≢ 0 → s.shared < length (free_of m s)
  none-free h = omega (arith, shared-is s)

  pub shared-some : (f : ℕ) → 0 < further_at s f → 0 < s.shared
  shared-some f some = omega (arith, further-le is f (further-held is f some).1, further-is s f)

  -- a count that was read
  pub count-read : (f x : ℕ) → f < length m → x ≡ get_or s.holders.items f x → x ≡ counted s f
  count-read f x inside e = e ∙ get_or_default_zero s.holders.items f x (omega arith)
