-- Lemmas on what a program's memory shows from an address on.
use Rattle.vm.proofs.Common.{[], Access, ap, arith, Bool, can_write, cases_Bool, cases_lt, drop, drop-append-le}
use Rattle.vm.proofs.Common.{drop-cons, drop-drop, drop_all, drop_at, false, flat_map, get_or, get_or-drop}
use Rattle.vm.proofs.Common.{get_or_from_slice_get, inl, inr, IsSized, le-leb, leb, leb-false, leb-true, length}
use Rattle.vm.proofs.Common.{length-append, length-drop, length-take, List, lt-leb, Memory, min, None, Option, Page}
use Rattle.vm.proofs.Common.{permits, permitted, piece_at, prefix_len, prefix_len-le-length, prefix_len_passes}
use Rattle.vm.proofs.Common.{prefix_len_stops, reach, refl, rest_of, run_of, slice_get, slice_get_cases}
use Rattle.vm.proofs.Common.{slice_get_within, Some, Store, suc, sym, take, take-add, take-append-le, take_while}
use Rattle.vm.proofs.Common.{take_while-cons, true, zero, ℕ, ◌%◌, ◌*◌, ◌++◌, ◌+◌, ◌-◌, ◌/◌, ◌<◌, ◌∙◌, ◌∷◌, ◌≡◌, ◌≤◌}
use Rattle.vm.proofs.Common.{append-nil, append_assoc, before_nul, if◌then◌else◌, option_map, short_string, slice_set}
use Rattle.vm.proofs.Common.{take-suc, take-suc-set, ◌^◌, ◌≢◌}
use Rattle.std.proofs.lemmas.List.Concat.{flat_map-cons}

-- an item of a list, and where there is none
pub item-at : {A : Type 0} (xs : List A) (i : ℕ) (x : A) → slice_get xs i ≡ Some x
    → (drop i xs ≡ x ∷ drop (suc i) xs) × (i < length xs) × (get_or xs i x ≡ x)
item-at xs i x e =
    let low = slice_get_within xs i x e in
    let is = get_or_from_slice_get xs i x x e in
    (drop-cons xs i x low ∙ ap (λ y. y ∷ drop (suc i) xs) is, low, is)

pub item-past : {A : Type 0} (xs : List A) (i : ℕ) → slice_get xs i ≡ None → length xs ≤ i
item-past xs i e = elim ((slice_get_cases xs i).1)
    [ inl (x, low, some, is) ↦ absurd (cc (some, e)) | inr (past, none) ↦ past ]

pub first-drop : {A : Type 0} (xs : List A) (q : ℕ) → slice_get (drop q xs) 0 ≡ slice_get xs q
first-drop xs zero = refl
first-drop [] (suc q) = refl
first-drop (x ∷ xs) (suc q) = first-drop xs q

pub get-take : {A : Type 0} (xs : List A) (n p : ℕ) → p < n → slice_get (take n xs) p ≡ slice_get xs p
get-take [] zero p h = refl
get-take [] (suc n) p h = refl
get-take (x ∷ xs) zero p h = absurd (omega arith)
get-take (x ∷ xs) (suc n) zero h = refl
get-take (x ∷ xs) (suc n) (suc p) h = get-take xs n p (omega arith)

abbrev flat : Access → List Page → List ℕ
flat access xs = flat_map (λ p. p.bytes) (take_while (λ p. permits access p.marks) xs)

abbrev run : Access → List Page → ℕ
run access xs = prefix_len (λ p. permits access p.marks) xs

-- a page that allows the access goes before the run of the others, and one that doesn't ends it
flat-yes : (a : Access) (x : Page) (xs : List Page) → permits a x.marks ≡ true
    → (flat a (x ∷ xs) ≡ x.bytes ++ flat a xs) × (run a (x ∷ xs) ≡ 1 + run a xs)
flat-yes a x xs e = (
  rw (take_while-cons (λ (p : Page). permits a p.marks) x xs, e)
      (flat_map-cons (λ (p : Page). p.bytes) x (take_while (λ p. permits a p.marks) xs)),
  rw e refl,
)

flat-no : (a : Access) (x : Page) (xs : List Page) → permits a x.marks ≡ false
    → (flat a (x ∷ xs) ≡ []) × (run a (x ∷ xs) ≡ 0)
flat-no a x xs e = (rw (take_while-cons (λ (p : Page). permits a p.marks) x xs, e) refl, rw e refl)

sized-drop : (xs : List Page) (q : ℕ) → IsSized xs → IsSized (drop q xs)
sized-drop xs zero h = h
sized-drop [] (suc q) h = h
sized-drop (x ∷ xs) (suc q) h = sized-drop xs q (λ i p e. h (suc i) p e)

length-flat : (a : Access) (xs : List Page) → IsSized xs → length (flat a xs) ≡ 4096 * run a xs
length-flat a [] h = refl
length-flat a (x ∷ xs) h = elim (cases_Bool (permits a x.marks)) [
  | inl is ↦ omega (
    arith,
    ap length (flat-yes a x xs is).0,
    length-append x.bytes (flat a xs),
    h 0 x refl,
    length-flat a xs (λ i p e. h (suc i) p e),
    (flat-yes a x xs is).1,
  )
  | inr isnt ↦ omega (arith, ap length (flat-no a x xs isnt).0, (flat-no a x xs isnt).1)
]

-- ---- the run of pages

flat-drop : (a : Access) (xs : List Page) (i : ℕ) → IsSized xs → i ≤ run a xs
    → flat a (drop i xs) ≡ drop (4096 * i) (flat a xs)
flat-drop a xs zero h le = refl
flat-drop a [] (suc i) h le = absurd (omega arith)
flat-drop a (x ∷ xs) (suc i) h le = elim (cases_Bool (permits a x.marks)) [
  | inl is ↦
      let size : length x.bytes ≡ 4096 = h 0 x refl in
      let low : i ≤ run a xs = omega (arith, (flat-yes a x xs is).1) in
      let more : 4096 * suc i ≡ 4096 + 4096 * i = omega arith in
      let front : drop 4096 (x.bytes ++ flat a xs) ≡ flat a xs = drop_at x.bytes (flat a xs) 4096 size in
      rw (more, ← drop-drop (4096 * i) 4096 (flat a (x ∷ xs)), (flat-yes a x xs is).0, front)
      (flat-drop a xs i (λ k p e. h (suc k) p e) low)
  | inr isnt ↦ absurd (omega (arith, (flat-no a x xs isnt).1))
]

same_test : (a b c d : ℕ) → (a ≤ b → c ≤ d) → (c ≤ d → a ≤ b) → leb a b ≡ leb c d
same_test a b c d f g = elim (cases_lt b a) [
  | inl more ↦ lt-leb a b more
      ∙ sym (lt-leb c d (elim (cases_lt d c) [ inl h ↦ h | inr h ↦ absurd (omega (arith, g h)) ]))
  | inr less ↦ le-leb a b less ∙ sym (le-leb c d (f less))
]

flat-front : (a : Access) (xs : List Page) (o l : ℕ) → IsSized xs → o + l ≤ 4096
    → take l (drop o (flat a xs)) ≡ take l (rest_of o (permitted a (slice_get xs 0)))
flat-front a [] o l h le = ap (take l) (drop_all o [] (omega arith))
flat-front a (x ∷ xs) o l h le = elim (cases_Bool (permits a x.marks)) [
  | inl is ↦
      let size : length x.bytes ≡ 4096 = h 0 x refl in
      let long : l ≤ length (drop o x.bytes) = omega (arith, length-drop o x.bytes) in
      rw ((flat-yes a x xs is).0, is, drop-append-le o x.bytes (flat a xs) (omega arith))
      (take-append-le l (drop o x.bytes) (flat a xs) long)
  | inr isnt ↦ rw ((flat-no a x xs isnt).0, isnt) (ap (take l) (drop_all o [] (omega arith)))
]

sized-at : (o : Option Page) → ((p : Page) → o ≡ Some p → length p.bytes ≡ 4096) → (a : Access) (at : ℕ) → at < 4096
    → at + length (rest_of at (permitted a o)) ≤ 4096
sized-at None h a at low = omega arith
sized-at (Some p) h a at low = elim (cases_Bool (permits a p.marks)) [
  | inl is ↦ rw is (omega (arith, h p refl, length-drop at p.bytes))
  | inr isnt ↦ rw isnt (omega arith)
]

module _ (a : Access) (mem : Memory) where
  -- whether one more page belongs to the run
  run-test : (first i : ℕ) (p : Page) → i ≤ run_of a mem first → slice_get mem (first + i) ≡ Some p
      → permits a p.marks ≡ leb (suc i) (run_of a mem first)
  unfolding run_of
  run-test first i p h at =
      let xs = drop first mem in
      let test : Page → Bool = λ q. permits a q.marks in
      let item = item-at mem (first + i) p at in
      let here : test p ≡ test (get_or xs i p) = ap test (sym (get_or-drop first mem i p ∙ item.2)) in
      elim (cases_lt i (run a xs)) [
        | inl low ↦ here ∙ prefix_len_passes test xs i p low ∙ sym (le-leb (suc i) (run a xs) (omega arith))
        | inr high ↦
            let same : run a xs ≡ i = omega arith in
            here ∙ ap (λ j. test (get_or xs j p)) (sym same)
            ∙ prefix_len_stops test xs p (omega (arith, length-drop first mem))
            ∙ sym (lt-leb (suc i) (run a xs) (omega arith))
      ]

  -- it is no longer than the pages from there on
  run-le : (first : ℕ) → run_of a mem first ≤ length mem - first
  unfolding run_of
  run-le first = omega (
    arith,
    prefix_len-le-length (λ (p : Page). permits a p.marks) (drop first mem),
    length-drop first mem,
  )

  -- one more page of it, and where it ends
  pub run-more : (first i : ℕ) (p : Page) → i ≤ run_of a mem first → slice_get mem (first + i) ≡ Some p
      → permits a p.marks ≡ true → i < run_of a mem first
  run-more first i p h at ok = omega (arith, leb-true (suc i) (run_of a mem first) (sym (run-test first i p h at) ∙ ok))

  pub run-stop : (first i : ℕ) (p : Page) → i ≤ run_of a mem first → slice_get mem (first + i) ≡ Some p
      → permits a p.marks ≡ false → run_of a mem first ≡ i
  run-stop first i p h at ok =
      omega (arith, leb-false (suc i) (run_of a mem first) (sym (run-test first i p h at) ∙ ok))

  pub run-end : (first i : ℕ) → i ≤ run_of a mem first → slice_get mem (first + i) ≡ None → run_of a mem first ≡ i
  run-end first i h at = omega (arith, run-le first, item-past mem (first + i) at)

  -- whether a page begins one
  pub page-allows : (page : ℕ) (p : Page) (b : Bool) → slice_get mem page ≡ Some p → permits a p.marks ≡ b
      → b ≡ leb 1 (run_of a mem page)
  page-allows page p b at ok = sym ok ∙ run-test page 0 p (omega arith) (ap (slice_get mem) (omega arith) ∙ at)

  pub no-page-allows : (page : ℕ) → slice_get mem page ≡ None → false ≡ leb 1 (run_of a mem page)
  no-page-allows page at =
      sym (lt-leb 1 (run_of a mem page)
      (omega (arith, run-end page 0 (omega arith) (ap (slice_get mem) (omega arith) ∙ at))))

  -- how many bytes can be reached
  pub length-reach : (at : ℕ) → IsSized mem → length (reach a mem at) ≡ 4096 * run_of a mem (at / 4096) - at % 4096
  unfolding reach run_of
  length-reach at h = omega (
    arith,
    length-drop (at % 4096) (flat a (drop (at / 4096) mem)),
    length-flat a (drop (at / 4096) mem) (sized-drop mem (at / 4096) h),
  )

  -- the test whether `len` bytes can be reached
  pub test-long : (at len : ℕ) → IsSized mem → 4096 * length mem < len → false ≡ leb len (length (reach a mem at))
  test-long at len h long =
      sym (lt-leb len (length (reach a mem at)) (omega (arith, length-reach at h, run-le (at / 4096))))

  pub test-reach : (at len most run : ℕ) → IsSized mem → 0 < len → at % 4096 + len ≤ 4096 * most
      → run ≡ min most (run_of a mem (at / 4096))
      → leb (at % 4096 + len) (4096 * run) ≡ leb len (length (reach a mem at))
  test-reach at len most run h some enough is =
      let reached = length-reach at h in
      same_test (at % 4096 + len) (4096 * run) len (length (reach a mem at)) (λ le. omega arith) (λ le. omega arith)

  -- and whether those of one page can
  pub test-page : (at len : ℕ) → IsSized mem → 0 < len → at % 4096 + len ≤ 4096
      → leb 1 (run_of a mem (at / 4096)) ≡ leb len (length (reach a mem at))
  test-page at len h some within =
      let reached = length-reach at h in
      same_test 1 (run_of a mem (at / 4096)) len (length (reach a mem at)) (λ le. omega arith) (λ le. omega arith)

  -- what is reached from a later address
  pub reach-drop : (at d : ℕ) → IsSized mem → d ≤ length (reach a mem at)
      → reach a mem (at + d) ≡ drop d (reach a mem at)
  unfolding reach
  reach-drop at d h le =
      let q = at / 4096 in
      let o = at % 4096 in
      let i = (o + d) / 4096 in
      let j = (o + d) % 4096 in
      let xs = drop q mem in
      let size : length (drop o (flat a xs)) ≡ 4096 * run a xs - o =
      omega (arith, length-drop o (flat a xs), length-flat a xs (sized-drop mem q h)) in
      let low : i ≤ run a xs = omega arith in
      let page : (at + d) / 4096 ≡ q + i = omega arith in
      let place : (at + d) % 4096 ≡ j = omega arith in
      let whole : 4096 * i + j ≡ o + d = omega arith in
      rw (
        page,
        place,
        ← drop-drop i q mem,
        flat-drop a xs i (sized-drop mem q h) low,
        drop-drop j (4096 * i) (flat a xs),
        whole,
      ) (sym (drop-drop d o (flat a xs)))

  -- what is reached begins with the rest of the page
  pub reach-front : (at l : ℕ) → IsSized mem → at % 4096 + l ≤ 4096
      → take l (reach a mem at) ≡ take l (piece_at a mem at)
  unfolding reach
  reach-front at l h le =
      flat-front a (drop (at / 4096) mem) (at % 4096) l (sized-drop mem (at / 4096) h) le
      ∙ ap (λ o. take l (rest_of (at % 4096) (permitted a o))) (first-drop mem (at / 4096))

  -- the rest of a page ends with the page
  pub length-piece : (at : ℕ) → IsSized mem → at % 4096 + length (piece_at a mem at) ≤ 4096
  length-piece at h = sized-at (slice_get mem (at / 4096)) (λ p e. h (at / 4096) p e) a (at % 4096) (omega arith)

  -- while bytes are left to reach, the rest of the page has some
  pub piece-some : (at : ℕ) → IsSized mem → 0 < length (reach a mem at) → 0 < length (piece_at a mem at)
  piece-some at h some =
      omega (
        arith,
        ap length (reach-front at 1 h (omega arith)),
        length-take 1 (reach a mem at),
        length-take 1 (piece_at a mem at),
      )

  -- what was reached so far, and the next piece
  pub reach-next : (at d l : ℕ) → IsSized mem → d ≤ length (reach a mem at) → l ≤ length (piece_at a mem (at + d))
      → take d (reach a mem at) ++ take l (piece_at a mem (at + d)) ≡ take (d + l) (reach a mem at)
  reach-next at d l h low le =
      ap (λ x. take d (reach a mem at) ++ x)
      (sym (reach-front (at + d) l h (omega (arith, length-piece (at + d) h)))
      ∙ ap (take l) (reach-drop at d h low))
      ∙ sym (take-add d l (reach a mem at))

  -- while bytes are left to reach, the next lies in a page, and the rest of its page has some
  pub reach-page : (at d : ℕ) → IsSized mem → d < length (reach a mem at)
      → ((at + d) / 4096 < length mem) × (0 < length (piece_at a mem (at + d)))
  reach-page at d h low =
      let left : 0 < length (reach a mem (at + d)) =
      omega (arith, ap length (reach-drop at d h (omega arith)), length-drop d (reach a mem at)) in
      (omega (arith, length-reach (at + d) h, run-le ((at + d) / 4096)), piece-some (at + d) h left)

-- bytes that a program may write lie in pages that there are
pub page-there : (mem : Memory) (at count i : ℕ) → IsSized mem → can_write mem at count ≡ true → i < count
    → (at + i) / 4096 < length mem
page-there mem at count i h can low =
    let whole : count ≤ length (reach Store mem at) = leb-true count (length (reach Store mem at)) can in
    (reach-page Store mem at i h (omega arith)).0

-- ---- a string is read byte by byte

-- the first byte of a piece is the next that is reached
pub piece-first : (a : Access) (mem : Memory) (at d : ℕ) → IsSized mem → d ≤ length (reach a mem at)
    → slice_get (piece_at a mem (at + d)) 0 ≡ slice_get (reach a mem at) d
piece-first a mem at d h low =
    sym (get-take (piece_at a mem (at + d)) 1 0 (omega arith))
    ∙ ap (λ l. slice_get l 0) (sym (reach-front a mem (at + d) 1 h (omega arith)))
    ∙ get-take (reach a mem (at + d)) 1 0 (omega arith)
    ∙ ap (λ l. slice_get l 0) (reach-drop a mem at d h low)
    ∙ first-drop (reach a mem at) d

-- the bytes below i are in the buffer, and none of them is 0
pub record Strings (bytes buffer : List ℕ) (i : ℕ) : Type 0 where
  pub within : i ≤ length bytes
  pub same : take i buffer ≡ take i bytes
  pub rest : before_nul bytes ≡ option_map (λ r. take i bytes ++ r) (before_nul (drop i bytes))

mapped-nil : (o : Option (List ℕ)) → o ≡ option_map (λ r. [] ++ r) o
mapped-nil None = refl
mapped-nil (Some r) = refl

pub strings-start : (bytes buffer : List ℕ) → Strings bytes buffer 0
strings-start bytes buffer = record { within = omega arith; same = refl; rest = mapped-nil (before_nul bytes) }

-- the next byte, after those so far
split : (xs : List ℕ) (i x : ℕ) → slice_get xs i ≡ Some x
    → (drop i xs ≡ x ∷ drop (suc i) xs) × (take (suc i) xs ≡ take i xs ++ (x ∷ [])) × (i < length xs)
split xs i x e = let item =
    item-at xs i x e in (item.0, take-suc xs i x item.1 ∙ ap (λ y. take i xs ++ (y ∷ [])) item.2, item.1)

twice : (front : List ℕ) (x : ℕ) (o : Option (List ℕ))
    → option_map (λ r. front ++ r) (option_map (λ r. x ∷ r) o) ≡ option_map (λ r. (front ++ (x ∷ [])) ++ r) o
twice front x None = refl
twice front x (Some r) = ap Some (sym (append_assoc front (x ∷ []) r))

before-more : (x : ℕ) (xs : List ℕ) → x ≢ 0 → before_nul (x ∷ xs) ≡ option_map (λ r. x ∷ r) (before_nul xs)
before-more zero xs ne = absurd (ne refl)
before-more (suc x) xs ne = refl

long-string : (front : List ℕ) (x most : ℕ) (o : Option (List ℕ)) → most ≤ length front
    → short_string most (option_map (λ r. front ++ r) (option_map (λ r. x ∷ r) o)) ≡ None
long-string front x most None h = refl
long-string front x most (Some r) h =
    ap (λ b. if b then Some (front ++ (x ∷ r)) else None)
    (lt-leb (length (front ++ (x ∷ r))) most (omega (arith, length-append front (x ∷ r))))

module _ {bytes buffer : List ℕ} {i : ℕ} (was : Strings bytes buffer i) where
  -- one more byte
  pub strings-next : {x : ℕ} → i < length buffer → slice_get bytes i ≡ Some x → x ≢ 0
      → Strings bytes (slice_set buffer i x) (i + 1)
  strings-next {x} room at ne =
      let s = split bytes i x at in
      let one : i + 1 ≡ suc i = omega arith in
      rw one (record {
        within = omega arith;
        same = take-suc-set buffer i x room ∙ ap (λ l. l ++ (x ∷ [])) was.same ∙ sym s.1;
        rest = rw (was.rest, s.0, before-more x (drop (suc i) bytes) ne, s.1)
            (twice (take i bytes) x (before_nul (drop (suc i) bytes)));
      })

  -- the bytes end before a 0
  pub string-open : (most : ℕ) → slice_get bytes i ≡ None → short_string most (before_nul bytes) ≡ None
  string-open most e = ap (short_string most)
      (was.rest ∙ ap (λ l. option_map (λ r. take i bytes ++ r) (before_nul l)) (drop_all i bytes (item-past bytes i e)))

  -- the 0 is there
  pub string-ends : (most : ℕ) → i ≤ most → slice_get bytes i ≡ Some 0
      → short_string most (before_nul bytes) ≡ Some (take i buffer)
  string-ends most fits e =
      let s = split bytes i 0 e in
      let found : before_nul bytes ≡ Some (take i buffer) = was.rest
      ∙ ap (λ l. option_map (λ r. take i bytes ++ r) (before_nul l)) s.0
      ∙ ap Some (append-nil (take i bytes) ∙ sym was.same) in
      let short : leb (length (take i buffer)) most ≡ true =
      le-leb (length (take i buffer)) most (omega (arith, length-take i buffer)) in
      ap (short_string most) found ∙ ap (λ b. if b then Some (take i buffer) else None) short

  -- it is not there in time
  pub string-long : {x : ℕ} → slice_get bytes i ≡ Some x → x ≢ 0 → short_string i (before_nul bytes) ≡ None
  string-long {x} e ne =
      let s = split bytes i x e in
      ap (short_string i) (was.rest ∙ ap (λ l. option_map (λ r. take i bytes ++ r) (before_nul l)) s.0
      ∙ ap (option_map (λ r. take i bytes ++ r)) (before-more x (drop (suc i) bytes) ne))
      ∙ long-string (take i bytes) x i (before_nul (drop (suc i) bytes)) (omega (arith, length-take i bytes))

-- the next address is one of 64 bits
pub string-fits : (a : Access) (mem : Memory) (at i : ℕ) → IsSized mem → length mem ≤ 32768 → at < 2 ^ 64
    → i ≤ length (reach a mem at) → at + i < 2 ^ 64
string-fits a mem at zero h small fits low = omega arith
string-fits a mem at (suc i) h small fits low = omega (arith, (reach-page a mem at i h (omega arith)).0)
