-- The lowest clear bit of a block.
use Rattle.balloc.proofs.Common.{◌≡◌, ◌≢◌, ℕ, ◌+◌, ◌-◌, ◌*◌, ◌/◌, ◌%◌, ◌^◌, ◌<◌, ◌≤◌, Bool, true, false, cond, eqb, not}
use Rattle.balloc.proofs.Common.{List, length, get_or, map, replicate, None, Some, zero, suc, ap, sym, refl, ◌∙◌, arith}
use Rattle.balloc.proofs.Common.{inl, inr, w8, ◌==◌, find, data_from, mark, Blocks, bit_at, cases_eq, cond-false}
use Rattle.balloc.proofs.Common.{cond-true, eq-eqb, eqb-false, eqb-true, ne_eqb, not-false, not-true, bitmask_splat}
use Rattle.balloc.proofs.Common.{length-chunk, none_from_empty_mask, run_in_chunk_fails, run_in_chunk_stops}
use Rattle.balloc.proofs.Common.{trailing_mask_l, bit_at-lt, bit_at_ones, bit_in, lowest_clear, cases_lt, block_at}
use Rattle.balloc.proofs.Common.{bitmap_start_of, Geometry, IsFirstFree, part, inode_at, inode_of, IsLowestUnused, []}
use Rattle.balloc.proofs.Common.{◌∷◌, set, splice, get_or-part, get_or-splice_before, get_or-splice_inside}
use Rattle.balloc.proofs.Common.{get_or-splice_after, HasParts, HasParts-kept, PutsBlock-write, SetsBit}
use lib.Count.{count_trailing_zeros}
use Rattle.std.specs.List.{prefix_len, range_with_len}
use Rattle.std.specs.Simd.Lanes.{chunk, mask_l, top, zip2}
use Rattle.std.proofs.lemmas.Bool.{both_ways, cases_Bool, cases_order}
use Rattle.std.proofs.lemmas.Option.{none-some, same_Some}
use Rattle.std.proofs.Common.{subst, ◌⊎◌}

-- ---- the first number of a range that passes

module _ (p : ℕ → Bool) where
  record IsFirst (n a i : ℕ) : Type 0 where
    low : a ≤ i
    high : i < a + n
    here : p i ≡ true
    before : (k : ℕ) → a ≤ k → k < i → p k ≡ false

  looked : (n a : ℕ) → ((i : ℕ) × (find p (range_with_len a n) ≡ Some i) × IsFirst n a i)
      ⊎ ((find p (range_with_len a n) ≡ None) × ((k : ℕ) → a ≤ k → k < a + n → p k ≡ false))
  looked zero a = inr (refl, λ k low high. absurd (omega arith))
  looked (suc n) a = elim (cases_Bool (p a)) [
    | inl e ↦ inl (
      a,
      cond-true (p a) (Some a) (find p (range_with_len (a + 1) n)) e,
      record { low = omega arith; high = omega arith; here = e; before = λ k l m. absurd (omega arith) },
    )
    | inr e ↦ (elim (looked n (a + 1)) [
      | inl (i, is, first) ↦ inl (
        i,
        cond-false (p a) (Some a) (find p (range_with_len (a + 1) n)) e ∙ is,
        record {
          low = omega (arith, first.low);
          high = omega (arith, first.high);
          here = first.here;
          before = λ k l m. elim (cases_eq k a) [ inl s ↦ ap p s ∙ e | inr t ↦ first.before k (omega arith) m ];
        },
      )
      | inr (is, none) ↦ inr (
        cond-false (p a) (Some a) (find p (range_with_len (a + 1) n)) e
            ∙ is,
        λ k l m. elim (cases_eq k a) [ inl s ↦ ap p s ∙ e | inr t ↦ none k (omega arith) (omega arith) ],
      )
    ])
  ]

  find_first : (n a i : ℕ) → a ≤ i → i < a + n → p i ≡ true → ((k : ℕ) → a ≤ k → k < i → p k ≡ false)
      → find p (range_with_len a n) ≡ Some i
  find_first n a i low high here before = elim (looked n a) [
    | inr (is, none) ↦ absurd (both_ways (p i) (none i low high) here)
    | inl (j, is, first) ↦ (elim (cases_order i j) [
      | inl e ↦ is ∙ ap Some (sym e)
      | inr apart ↦ absurd (elim apart [
        | inl l ↦ both_ways (p i) (first.before i low l) here
        | inr l ↦ both_ways (p j) (before j first.low l)
            first.here
      ])
    ])
  ]

  find_none : (n a : ℕ) → ((k : ℕ) → a ≤ k → k < a + n → p k ≡ false) → find p (range_with_len a n) ≡ None
  find_none n a none = elim (looked n a)
      [ inl (j, is, first) ↦ absurd (both_ways (p j) (none j first.low first.high) first.here) | inr (is, all) ↦ is ]

  -- and back
  first_found : (n a i : ℕ) → find p (range_with_len a n) ≡ Some i → IsFirst n a i
  first_found n a i h = elim (looked n a) [
    | inl (j, is, first) ↦ subst (IsFirst n a) (same_Some j i (sym is ∙ h)) first
    | inr (is, none) ↦ absurd
        (none-some i (sym is ∙ h))
  ]

  none_found : (n a : ℕ) → find p (range_with_len a n) ≡ None → (k : ℕ) → a ≤ k → k < a + n → p k ≡ false
  none_found n a h = elim (looked n a)
      [ inl (j, is, first) ↦ absurd (none-some j (sym h ∙ is)) | inr (is, none) ↦ none ]

-- ---- the lowest clear bit

module _ (block : List ℕ) where
  bit_few : (k : ℕ) → bit_in block k < 2
  unfolding bit_in
  bit_few k = bit_at-lt (get_or block (k / 8) 0) (k % 8)

  set_fails : (k : ℕ) → bit_in block k ≡ 1 → (bit_in block k == 0) ≡ false
  set_fails k one = ne_eqb (bit_in block k) 0 (λ z. omega arith)

  fails_set : (k : ℕ) → (bit_in block k == 0) ≡ false → bit_in block k ≡ 1
  fails_set k h = omega (arith, eqb-false (bit_in block k) 0 h, bit_few k)

  module _ (from to : ℕ) (ordered : from ≤ to) where
    pub lowest_clear-at : (i : ℕ) → from ≤ i → i < to → bit_in block i ≡ 0
        → ((k : ℕ) → from ≤ k → k < i → bit_in block k ≡ 1) → lowest_clear block from to ≡ Some i
    lowest_clear-at i low high clear before =
        find_first (λ k. bit_in block k == 0) (to - from) from i low (omega arith) (eq-eqb (bit_in block i) 0 clear)
        (λ k l h. set_fails k (before k l h))

    pub lowest_clear-none : ((k : ℕ) → from ≤ k → k < to → bit_in block k ≡ 1) → lowest_clear block from to ≡ None
    lowest_clear-none all = find_none (λ k. bit_in block k == 0) (to - from) from
        (λ k l h. set_fails k (all k l (omega arith)))

    -- and back
    pub clear_found : (i : ℕ) → lowest_clear block from to ≡ Some i
        → (from ≤ i) × (i < to) × (bit_in block i ≡ 0) × ((k : ℕ) → from ≤ k → k < i → bit_in block k ≡ 1)
    clear_found i is =
        let found = first_found (λ k. bit_in block k == 0) (to - from) from i is in
        let high = found.high in (
          found.low,
          omega arith,
          eqb-true (bit_in block i) 0 found.here,
          λ k l h. fails_set k (found.before k l h),
        )

    pub none_clear : lowest_clear block from to ≡ None → (k : ℕ) → from ≤ k → k < to → bit_in block k ≡ 1
    none_clear is k low high =
        fails_set k (none_found (λ j. bit_in block j == 0) (to - from) from is k low (omega arith))

-- ---- full bytes

abbrev pub is_other : ℕ → Bool
is_other b = not (eqb b 255)

module _ (bytes : List ℕ) (room : 64 ≤ length bytes) where
  abbrev mask : ℕ
  mask = mask_l (map (top 7) (zip2 (λ a b. cond (not (eqb a b)) 255 0) (chunk 0 64 bytes) (replicate 64 255))) % 2 ^ 64

  abbrev run : ℕ
  run = count_trailing_zeros 64 mask

  mask-is : mask ≡ mask_l (map is_other (chunk 0 64 bytes))
  mask-is = bitmask_splat w8 (λ a b. not (eqb a b)) (chunk 0 64 bytes) 64 255 (length-chunk 0 64 bytes room)
      (omega arith)

  full_of_other : (k : ℕ) → is_other (get_or bytes k 0) ≡ false → get_or bytes k 0 ≡ 255
  full_of_other k h = eqb-true (get_or bytes k 0) 255 (not-false (eqb (get_or bytes k 0) 255) h)

  pub all_full : mask ≡ 0 → (k : ℕ) → k < 64 → get_or bytes k 0 ≡ 255
  all_full none k h = full_of_other k
      (none_from_empty_mask is_other bytes 0 64 0 room (sym mask-is ∙ none) k (omega arith) h)

  counted : 0 < mask → run ≡ prefix_len (λ b. not (is_other b)) (chunk 0 64 bytes)
  counted some = ap (count_trailing_zeros 64) mask-is
      ∙ trailing_mask_l is_other 64 (chunk 0 64 bytes) (omega (arith, length-chunk 0 64 bytes room))
      (omega (arith, mask-is, some))

  pub full_before : 0 < mask → (k : ℕ) → k < run → get_or bytes k 0 ≡ 255
  full_before some k h = full_of_other k
      (run_in_chunk_fails is_other bytes 0 64 (run) 0 room (counted some) k (omega arith) (omega (arith, h)))

  pub not_full_at : 0 < mask → run < 64 → get_or bytes (run) 0 ≢ 255
  not_full_at some h =
      let first : 0 + run ≡ run = omega arith in
      let other = ap (λ k. is_other (get_or bytes k 0)) (sym first)
      ∙ run_in_chunk_stops is_other bytes 0 64 (run) 0 room (counted some) h in
      eqb-false (get_or bytes (run) 0) 255 (not-true (eqb (get_or bytes (run) 0) 255) other)

-- n full bytes from byte i / 8 on
pub full_set : (block : List ℕ) (i n : ℕ) → i % 8 ≡ 0 → ((k : ℕ) → k < n → get_or block (i / 8 + k) 0 ≡ 255) → (k : ℕ)
    → i ≤ k → k < i + 8 * n → bit_in block k ≡ 1
unfolding bit_in
full_set block i n whole full k low high =
    let e : i / 8 + (k / 8 - i / 8) ≡ k / 8 = omega arith in
    let byte : get_or block (k / 8) 0 ≡ 255 = ap (λ j. get_or block j 0) (sym e) ∙ full (k / 8 - i / 8) (omega arith) in
    ap (λ b. bit_at b (k % 8)) byte ∙ bit_at_ones 8 (k % 8) (omega arith)

-- ---- the bits of one block of the bitmap are those of 8192 blocks

module _ (g : Geometry) {blocks read : Blocks} {block : List ℕ} {start : ℕ} (b : ℕ)
    (begins : start ≡ bitmap_start_of g.inodes) (told : block ≡ block_at read (start + b / 8192))
    (same : read ≡ blocks) where
  abbrev base : ℕ
  base = b / 8192 * 8192

  bit_here : (i : ℕ) → i < 8192 → mark g blocks (base + i) ≡ bit_in block i
  bit_here i h =
      let q : bitmap_start_of g.inodes + (base + i) / 8192 ≡ start + b / 8192 = omega arith in
      let r : (base + i) % 8192 ≡ i = omega arith in
      ap (λ k. bit_in (block_at blocks k) ((base + i) % 8192)) q ∙ ap (bit_in (block_at blocks (start + b / 8192))) r
      ∙ ap (λ c. bit_in c i) (sym (told ∙ ap (λ d. block_at d (start + b / 8192)) same))

  module _ (from : ℕ) (before : (c : ℕ) → from ≤ c → c < b → mark g blocks c ≡ 1) where
    set_up_to : (to : ℕ) → to ≤ 8192 → ((k : ℕ) → b % 8192 ≤ k → k < to → bit_in block k ≡ 1) → (c : ℕ) → from ≤ c
        → c < base + to → mark g blocks c ≡ 1
    set_up_to to within here c low high = elim (cases_lt c b) [
      | inl less ↦ before c low less
      | inr more ↦
          let e : base + (c - base) ≡ c = omega arith in
          ap (mark g blocks) (sym e) ∙ bit_here (c - base) (omega arith) ∙ here (c - base) (omega arith) (omega arith)
    ]

    module _ (to : ℕ) (ordered : b % 8192 ≤ to) (within : to ≤ 8192) where
      pub first_here : data_from g ≤ from → from ≤ b → base + to ≤ g.size → (i : ℕ)
          → lowest_clear block (b % 8192) to ≡ Some i → IsFirstFree g blocks from (base + i)
      first_here past low high i found =
          let at = clear_found block (b % 8192) to ordered i found in
          let from_place = at.0 in
          let inside = at.1 in
          record {
            low = omega arith;
            free = record { low = omega arith; high = omega arith; clear = bit_here i (omega arith) ∙ at.2 };
            before = set_up_to i (omega arith) at.3;
          }

      pub set_here : lowest_clear block (b % 8192) to ≡ None → (c : ℕ) → from ≤ c → c < base + to → mark g blocks c ≡ 1
      set_here none = set_up_to to within (none_clear block (b % 8192) to ordered none)

-- ---- the records of one block are those of 16 numbers

abbrev pub kind_in : List ℕ → ℕ → ℕ
kind_in block i = (inode_of (part (64 * i) 64 block)).kind

abbrev pub kind_at : Blocks → ℕ → ℕ
kind_at blocks n = (inode_at blocks n).kind

module _ {blocks read : Blocks} {block : List ℕ} (n : ℕ) (told : block ≡ block_at read (2 + n / 16))
    (same : read ≡ blocks) where
  abbrev start : ℕ
  start = n / 16 * 16

  kind_here : (i : ℕ) → i < 16 → kind_at blocks (start + i) ≡ kind_in block i
  kind_here i h =
      let q : (start + i) / 16 ≡ n / 16 = omega arith in
      let r : (start + i) % 16 ≡ i = omega arith in
      ap (λ k. kind_in (block_at blocks (2 + (start + i) / 16)) k) r
      ∙ ap (λ k. kind_in (block_at blocks (2 + k)) i) q
      ∙ ap (λ b. kind_in b i) (sym (told ∙ ap (λ d. block_at d (2 + n / 16)) same))

  pub used_up_to : (to : ℕ) → to ≤ 16 → ((m : ℕ) → 1 ≤ m → m < n → kind_at blocks m ≢ 0)
      → ((k : ℕ) → n % 16 ≤ k → k < to → kind_in block k ≢ 0)
      → (m : ℕ) → 1 ≤ m → m < start + to → kind_at blocks m ≢ 0
  used_up_to to within before here m low high = elim (cases_lt m n) [
    | inl less ↦ before m low less
    | inr more ↦ λ z.
        let e : start + (m - start) ≡ m = omega arith in
        here (m - start) (omega arith) (omega arith)
        (sym (kind_here (m - start) (omega arith)) ∙ ap (kind_at blocks) e ∙ z)
  ]

  pub lowest_here : (g : Geometry) (i : ℕ) → i < 16 → n % 16 ≤ i → 1 ≤ n → start + i < g.inodes → kind_in block i ≡ 0
      → ((m : ℕ) → 1 ≤ m → m < n → kind_at blocks m ≢ 0) → ((k : ℕ) → n % 16 ≤ k → k < i → kind_in block k ≢ 0)
      → IsLowestUnused g blocks (start + i)
  lowest_here g i within from low high unused before here = record {
    low = omega arith;
    high = high;
    unused = kind_here i within ∙ unused;
    lowest = used_up_to i (omega arith) before here;
  }

-- ---- one bit of a bitmap is written

-- a bit of the byte that is written, and of another
bit_in-same : (block : List ℕ) (p v j : ℕ) → p < length block → j / 8 ≡ p
    → bit_in (splice p (v ∷ []) block) j ≡ bit_at v (j % 8)
unfolding bit_in
bit_in-same block p v j h e =
    ap (λ x. bit_at x (j % 8))
    (get_or-splice_inside p (v ∷ []) block (j / 8) 0 (omega arith) (omega arith) (omega arith)
    ∙ ap (λ i. get_or (v ∷ []) i 0) (let z : j / 8 - p ≡ 0 = omega arith in z))

bit_in-other : (block : List ℕ) (p v j : ℕ) → p < length block → j / 8 ≢ p
    → bit_in (splice p (v ∷ []) block) j ≡ bit_in block j
unfolding bit_in
bit_in-other block p v j h e = elim (cases_lt (j / 8) p) [
  | inl low ↦ ap (λ x. bit_at x (j % 8)) (get_or-splice_before p (v ∷ []) block (j / 8) 0 (omega arith) low)
  | inr high ↦ ap (λ x. bit_at x (j % 8)) (get_or-splice_after p (v ∷ []) block (j / 8) 0 (omega arith) (omega arith))
]

-- bit j of a block in which byte p gets the value v, which is the old byte except for one bit
bit_in-put : (block : List ℕ) (i j v : ℕ) → length block ≡ 1024 → i < 8192 → j < 8192 → j ≢ i
    → ((k : ℕ) → k < 8 → k ≢ i % 8 → bit_at v k ≡ bit_at (get_or block (i / 8) 0) k)
    → bit_in (splice (i / 8) (v ∷ []) block) j ≡ bit_in block j
unfolding bit_in
bit_in-put block i j v e h l apart others = elim (cases_eq (j / 8) (i / 8)) [
  | inl met ↦ bit_in-same block (i / 8) v j (omega arith) met ∙ others (j % 8) (omega arith) (omega arith)
      ∙ ap (λ p. bit_at (get_or block p 0) (j % 8)) (sym met)
  | inr other ↦ bit_in-other block (i / 8) v j (omega arith) other
]

-- as the code does it
pub SetsBit-byte : {g : Geometry} {old read new : Blocks} {start b : ℕ} {bits : List ℕ} {bit : ℕ} (v : ℕ)
    → HasParts g old → start ≡ bitmap_start_of g.inodes → b < g.size
    → read ≡ old → bits ≡ part (b % 8192 / 8) 1 (block_at old (start + b / 8192)) → bit_at v (b % 8) ≡ bit
    → ((k : ℕ) → k < 8 → k ≢ b % 8 → bit_at v k ≡ bit_at (get_or bits 0 0) k)
    → new ≡ set read (start + b / 8192) (splice (b % 8192 / 8) (v ∷ []) (block_at read (start + b / 8192)))
    → SetsBit g old new b bit
SetsBit-byte {g} {old} {read} {new} {start} {b} {bits} v parts begins high same bits_are here others e =
    let at = start + b / 8192 in
    let place = b % 8192 / 8 in
    let block = block_at old at in
    let spot : at ≡ bitmap_start_of g.inodes + b / 8192 = ap (λ s. s + b / 8192) begins in
    let within : at < length old = omega (arith, parts.count, parts.size_high, parts.room) in
    let whole = parts.sizes at within in
    let byte : get_or bits 0 0 ≡ get_or block place 0 = ap (λ l. get_or l 0 0) bits_are
    ∙ get_or-part place 1 block 0 0 (omega arith) ∙ ap (λ j. get_or block j 0) (omega arith) in
    let puts = PutsBlock-write old new
    at place (v ∷ []) parts.sizes within (omega arith)
    (e ∙ ap (λ x. set x at (splice place (v ∷ []) (block_at x at))) same) in
    record {
      parts = HasParts-kept parts puts.count puts.sizes;
      here =
          let low_bits : b % 8192 % 8 ≡ b % 8 = omega arith in
          ap (λ x. bit_in (block_at new x) (b % 8192)) (sym spot) ∙ ap (λ x. bit_in x (b % 8192)) puts.here
          ∙ bit_in-same block place v (b % 8192) (omega arith) (omega arith) ∙ ap (bit_at v) low_bits ∙ here;
      others = λ c h apart. elim (cases_eq (c / 8192) (b / 8192)) [
        | inl met ↦
            let there : bitmap_start_of g.inodes + c / 8192 ≡ at = omega arith in
            ap (λ x. bit_in (block_at new x) (c % 8192)) there ∙ ap (λ x. bit_in x (c % 8192)) puts.here
            ∙ bit_in-put block (b % 8192) (c % 8192) v whole (omega arith) (omega arith) (omega arith)
            (λ k l other. others k l (omega arith) ∙ ap (λ x. bit_at x k) byte)
            ∙ ap (λ x. bit_in (block_at old x) (c % 8192)) (sym there)
        | inr other ↦ ap (λ x. bit_in x (c % 8192)) (puts.rest (bitmap_start_of g.inodes + c / 8192) (omega arith))
      ];
      before = λ k h. puts.rest k (omega arith);
      after = λ k h. puts.rest k (omega arith);
    }
