-- A disk whose image denotes files is sound.
use Rattle.mount.proofs.Common.{◌≡◌, ◌≢◌, ℕ, ◌+◌, ◌-◌, ◌<◌, ◌≤◌, Bool, List, [], ◌∷◌, ◌++◌, length, get_or, ap, ap₂}
use Rattle.mount.proofs.Common.{sym, refl, ◌∙◌, arith, subst, inl, inr, zero, suc, true, false, cond, All, count_by}
use Rattle.mount.proofs.Common.{sum_by, flat_map, nat_eq, not, ◌||◌, list_any, range_with_len, cases_eq, cases_lt}
use Rattle.mount.proofs.Common.{eq-eqb, ne_eqb, get_or-append-add, get_or_append_left, get_or_default, length-append}
use Rattle.mount.proofs.Common.{All-head, All-tail, sum_by-cons, IsOnce, IsOnce-left, IsTrue, nat_le, nat_lt, ◌⊎◌}
use Rattle.mount.proofs.Common.{Decides, and_parts, leb-true, ltb-true, All-weaker, AreBlocks, IsInode, IsUsed}
use Rattle.mount.proofs.Common.{asked_slot, slot_of, HasParts, IsNamed, IsSound, TellsGeometry, bitmap_start_of}
use Rattle.mount.proofs.Common.{data_start_of, super_of, Geometry, Files, longest, Format, format, most_bytes, Denotes}
use Rattle.mount.proofs.Common.{bit_of, data_start, format_of, inodes_in, is_data_block, kind_in, length_in}
use Rattle.mount.proofs.Common.{named_blocks, size_in, image_of, length-image_of, HasKinds-denotes, HasSizes-denotes}
use Rattle.mount.proofs.Common.{named_before-all, blocks_of-used, kind-located, size-located, HasSlots, IsReadable}
use Rattle.mount.proofs.Common.{IsReadable-listed, format-told, slot-listed, spare-zero, IsLegible, bit-held}
use Rattle.mount.proofs.Common.{named-decides, HasNumbers-from, inodes-is, magic-is, size-is}
use Rattle.std.proofs.lemmas.List.FromFn.{get_or-range_with_len, length-range_with_len}
use Rattle.std.proofs.lemmas.List.Folds.{list_any_none}
use Rattle.imagerules.proofs.Marking.{All-from_flat_map, FitsAddresses-at, is_data_block-below}
use Rattle.std.proofs.lemmas.Bool.Decides.{Decides-eqb}
use Rattle.blockdev.specs.Blocks as device
use Rattle.layout.specs.Image as disk
use Rattle.imagerules.specs.Marks.{blocks_of}
use Rattle.imagerules.specs.Pieces.{FitsAddresses}

-- ---- lists of blocks that are made of lists, one for each number of a range: what holds of all holds of each

-- ---- no block twice

IsOnce-right : (xs ys : List ℕ) → IsOnce (xs ++ ys) → IsOnce ys
IsOnce-right xs ys h i j d l m e =
    h (length xs + i) (length xs + j) d (omega arith) (omega (arith, length-append xs ys))
    (get_or-append-add xs ys i d ∙ e ∙ sym (get_or-append-add xs ys j d))

IsOnce-apart : (xs ys : List ℕ) → IsOnce (xs ++ ys) → (i j d : ℕ) → i < length xs → j < length ys
    → get_or xs i d ≢ get_or ys j d
IsOnce-apart xs ys h i j d l m e =
    h i (length xs + j) d (omega arith) (omega (arith, length-append xs ys))
    (get_or_append_left xs ys d i l ∙ e ∙ sym (get_or-append-add xs ys j d))

once-same : (xs : List ℕ) → IsOnce xs → (p q d : ℕ) → p < length xs → q < length xs → get_or xs p d ≡ get_or xs q d
    → p ≡ q
once-same xs once p q d l m e = elim (cases_lt p q) [
  | inl low ↦ absurd (once p q d low m e)
  | inr a ↦ elim (cases_lt q p) [ inl low ↦ absurd (once q p d low l (sym e)) | inr b ↦ omega arith ]
]

-- what holds of all holds of those of one list
All-one : (P : ℕ → Type 0) (f : ℕ → List ℕ) (a m : ℕ) → All P (flat_map f (range_with_len a m)) → (n : ℕ) → a ≤ n
    → n < a + m → All P (f n)
All-one P f a m h n low high =
    let e : get_or (range_with_len a m) (n - a) 0 ≡ n = get_or-range_with_len a m (n - a) 0 (omega arith)
    ∙ omega arith in
    subst (λ k. All P (f k)) e
    (All-from_flat_map P f (range_with_len a m) h (n - a) 0 (omega (arith, length-range_with_len a m)))

-- the first of the lists, and another
once-first : (f : ℕ → List ℕ) (a m : ℕ) → IsOnce (f a ++ flat_map f (range_with_len (a + 1) m)) → (j : ℕ) → a < j
    → j < a + 1 + m → (p q d : ℕ) → p < length (f a) → q < length (f j) → get_or (f a) p d ≢ get_or (f j) q d
once-first f a m h j low high p q d p_in =
    let rest = flat_map f (range_with_len (a + 1) m) in
    let apart : All (λ y. get_or (f a) p d ≢ y) rest =
    λ k c k_in. subst (λ y. get_or (f a) p d ≢ y) (get_or_default rest k d c k_in)
    (IsOnce-apart (f a) rest h p k d p_in k_in) in
    All-one (λ y. get_or (f a) p d ≢ y) f (a + 1) m apart j (omega arith) high q d

-- so two indices hold the same only where they are the same
pub once-places : (f : ℕ → List ℕ) (a m : ℕ) → IsOnce (flat_map f (range_with_len a m)) → (i j : ℕ) → a ≤ i → i < a + m
    → a ≤ j → j < a + m
    → (p q d : ℕ) → p < length (f i) → q < length (f j) → get_or (f i) p d ≡ get_or (f j) q d → (i ≡ j) × (p ≡ q)
once-places f a zero h i j i_low i_high j_low j_high p q d p_in q_in e = absurd (omega arith)
once-places f a (suc m) h i j i_low i_high j_low j_high p q d p_in q_in e =
    let rest = flat_map f (range_with_len (a + 1) m) in
    let i_at = λ (here : i ≡ a). ap (λ k. get_or (f k) p d) (sym here) ∙ e in
    elim (cases_eq i a) [
      | inl i_here ↦ elim (cases_eq j a) [
        | inl j_here ↦
            let p_at = subst (λ k. p < length (f k)) i_here p_in in
            let q_at = subst (λ k. q < length (f k)) j_here q_in in (
              i_here ∙ sym j_here,
              once-same (f a) (IsOnce-left (f a) rest h) p q d p_at q_at
                  (i_at i_here ∙ ap (λ k. get_or (f k) q d) j_here),
            )
        | inr away ↦ absurd (once-first f a m h j (omega arith) (omega arith) p q d
            (subst (λ k. p < length (f k)) i_here p_in) q_in (i_at i_here))
      ]
      | inr away ↦ elim (cases_eq j a) [
        | inl j_here ↦ absurd (once-first f a m h i (omega arith) (omega arith) q p d
            (subst (λ k. q < length (f k)) j_here q_in) p_in (sym (e ∙ ap (λ k. get_or (f k) q d) j_here)))
        | inr apart ↦ once-places f (a + 1) m (IsOnce-right (f a) rest h) i j (omega arith) (omega arith) (omega arith)
            (omega arith) p q d p_in q_in e
      ]
    ]

-- ---- how many numbers of a range a list names

-- what is the same on the range
pub sum-same : (f g : ℕ → ℕ) (a m : ℕ) → ((n : ℕ) → a ≤ n → n < a + m → f n ≡ g n)
    → sum_by f (range_with_len a m) ≡ sum_by g (range_with_len a m)
sum-same f g a zero h = refl
sum-same f g a (suc m) h =
    sum_by-cons f a (range_with_len (a + 1) m)
    ∙ ap₂ (λ x y. x + y) (h a (omega arith) (omega arith))
    (sum-same f g (a + 1) m (λ n low high. h n (omega arith) (omega arith)))
    ∙ sym (sum_by-cons g a (range_with_len (a + 1) m))

-- and what is the same except for one number, which only the first passes
count-but : (p q : ℕ → Bool) (x a m : ℕ) → a ≤ x → x < a + m → p x ≡ true → q x ≡ false → ((n : ℕ) → n ≢ x → p n ≡ q n)
    → count_by p (range_with_len a m) ≡ count_by q (range_with_len a m) + 1
count-but p q x a zero low high passes fails h = absurd (omega arith)
count-but p q x a (suc m) low high passes fails h =
    let all = sum_by-cons (λ n. cond (p n) 1 0) a (range_with_len (a + 1) m) in
    let but = sum_by-cons (λ n. cond (q n) 1 0) a (range_with_len (a + 1) m) in
    elim (cases_eq x a) [
      | inl e ↦
          let one : ◌≡◌ {A = ℕ} (cond (p a) 1 0) 1 = ap (λ b. cond {A = ℕ} b 1 0) (subst (λ k. p k ≡ true) e passes) in
          let none : ◌≡◌ {A = ℕ} (cond (q a) 1 0) 0 = ap (λ b. cond {A = ℕ} b 1 0) (subst (λ k. q k ≡ false) e fails) in
          let rest : count_by p (range_with_len (a + 1) m) ≡ count_by q (range_with_len (a + 1) m) =
          sum-same (λ n. cond (p n) 1 0) (λ n. cond (q n) 1 0) (a + 1) m
          (λ n l m. ap (λ b. cond {A = ℕ} b 1 0) (h n (omega arith))) in
          omega (arith, all, but)
      | inr other ↦
          let one : ◌≡◌ {A = ℕ} (cond (p a) 1 0) (cond (q a) 1 0) =
          ap (λ b. cond {A = ℕ} b 1 0) (h a (λ e. other (sym e))) in
          let rest : count_by p (range_with_len (a + 1) m) ≡ count_by q (range_with_len (a + 1) m) + 1 =
          count-but p q x (a + 1) m (omega arith) (omega arith) passes fails h in
          omega (arith, all, but)
    ]

count-all : (a m : ℕ) → count_by (λ n. true) (range_with_len a m) ≡ m
count-all a zero = refl
count-all a (suc m) = sum_by-cons (λ n. cond true 1 0) a (range_with_len (a + 1) m)
    ∙ ap (λ k. 1 + k) (count-all (a + 1) m) ∙ omega arith

-- those that the list names and those that it doesn't are all
pub count-named : (xs : List ℕ) (a m : ℕ) → IsOnce xs → All (λ x. (a ≤ x) × (x < a + m)) xs
    → count_by (λ n. not (list_any (nat_eq n) xs)) (range_with_len a m) + length xs ≡ m
count-named [] a m once within = omega (arith, count-all a m)
count-named (x ∷ xs) a m once within =
    let here = All-head (λ y. (a ≤ y) × (y < a + m)) x xs within in
    let fresh : list_any (nat_eq x) xs ≡ false =
    list_any_none (nat_eq x) xs
    (λ k d l. ne_eqb x (get_or xs k d) (once 0 (suc k) d (omega arith) (omega arith))) in
    let rest = count-named xs a m (IsOnce-right (x ∷ []) xs once) (All-tail (λ y. (a ≤ y) × (y < a + m)) x xs within) in
    let but = count-but (λ n. not (list_any (nat_eq n) xs)) (λ n. not (list_any (nat_eq n) (x ∷ xs))) x a m here.0
    here.1 (ap not fresh)
    (ap (λ b. not (b || list_any (nat_eq x) xs)) (eq-eqb x x refl))
    (λ n other. ap (λ b. not (b || list_any (nat_eq n) xs)) (sym (ne_eqb n x other))) in
    omega (arith, rest, but)

-- the blocks of a device whose image denotes these files, and the numbers of its super block
pub record IsDenoted (g : Geometry) (blocks : List (List ℕ)) (files : Files) : Type 0 where
  pub sizes : AreBlocks blocks
  pub size : g.size ≡ size_in (image_of blocks)
  pub inodes : g.inodes ≡ inodes_in (image_of blocks)
  pub denotes : Denotes (image_of blocks) files

module _ {g : Geometry} {blocks : List (List ℕ)} {files : Files} (h : IsDenoted g blocks files) where
  abbrev image : List ℕ
  image = image_of blocks

  -- ---- the super block

  count-held : length blocks ≡ g.size
  count-held = let whole = h.denotes.super.whole in omega (arith, length-image_of blocks h.sizes, h.size)

  same-format : format_of image ≡ format
  same-format = format-told image h.denotes.magic

  same-most : (format_of image).most ≡ format.most
  same-most = ap (λ (f : Format). f.most) same-format

  parts-held : HasParts g blocks
  parts-held =
      let super = h.denotes.super in
      record {
        count = count-held;
        sizes = h.sizes;
        size_high = let most = super.size_most in omega (arith, h.size, same-most);
        inodes_low = let least = super.inodes_least in omega (arith, h.inodes);
        inodes_high = let most = super.inodes_most in omega (arith, h.inodes);
        room = let blocks_in = super.blocks in let some = super.some_blocks in omega (arith, h.size, h.inodes);
      }

  head-held : TellsGeometry g (device.block_at blocks 1)
  head-held =
      let least = h.denotes.super.size_least in
      let two : 2 ≤ length blocks = omega (arith, count-held, h.size) in
      let s = super_of (device.block_at blocks 1) in
      record {
        numbers = HasNumbers-from blocks h.sizes two s refl same-most h.denotes.super;
        magic = magic-is blocks h.sizes two s refl ∙ h.denotes.magic;
        size = size-is blocks h.sizes two s refl ∙ sym h.size;
        inodes = inodes-is blocks h.sizes two s refl ∙ sym h.inodes;
      }

  -- ---- an inode in use

  module _ (n : ℕ) (inode : IsInode blocks g.inodes n) where
    used-inode : kind_in image n ≢ 0
    used-inode z = inode.kind (kind-located g blocks parts-held n inode.high ∙ z)

    within-inode : n < inodes_in image
    within-inode = let high = inode.high in omega (arith, h.inodes)

    size-most : length_in image n ≤ longest
    size-most = subst (λ f. length_in image n ≤ most_bytes f) same-format
        ((HasSizes-denotes image files h.denotes n inode.low within-inode).most used-inode)

    addresses-held : FitsAddresses image n
    addresses-held = FitsAddresses-at image (record { blocks = h.denotes.blocks; spares = h.denotes.spares }) n
        inode.low within-inode used-inode

    data-listed : All (λ b. IsTrue (is_data_block image b)) (blocks_of image n)
    data-listed = subst (All (λ b. IsTrue (is_data_block image b))) (sym (blocks_of-used image n used-inode))
        addresses-held.blocks

    has-slots : HasSlots g blocks n
    has-slots = record {
      parts = parts-held;
      same = same-format;
      inode = inode;
      fits = let high = inode.high in omega (arith, size-most, size-located g blocks parts-held n high);
    }

    pub readable : IsReadable g blocks n
    readable =
        IsReadable-listed g blocks n has-slots
        (All-weaker (λ b. IsTrue (is_data_block image b)) (λ b. b < length blocks)
        (λ b t. omega (arith, is_data_block-below image b t, count-held, h.size)) (blocks_of image n) data-listed)

  pub legible : IsLegible g blocks
  legible = record { parts = parts-held; size = h.size; inodes = h.inodes; readable = readable }

  -- ---- the blocks that inodes name

  abbrev IsData : ℕ → Type 0
  IsData b = IsTrue (is_data_block image b)

  data-range : (b : ℕ) → IsData b → (data_start_of g.size g.inodes ≤ b) × (b < g.size)
  data-range b t =
      let both = and_parts (nat_le (data_start (size_in image) (inodes_in image)) b) (nat_lt b (size_in image)) t in
      let low = leb-true (data_start (size_in image) (inodes_in image)) b both.0 in
      let high = ltb-true b (size_in image) both.1 in
      (omega (arith, h.size, h.inodes), omega (arith, h.size))

  abbrev all_listed : List ℕ
  all_listed = flat_map (blocks_of image) (range_with_len 1 (inodes_in image - 1))

  once-all : IsOnce all_listed
  once-all = subst IsOnce (sym (named_before-all image)) h.denotes.once

  slot-data : (n k : ℕ) → IsUsed blocks g.inodes n k → IsData (slot_of blocks n k)
  slot-data n k u =
      let at = slot-listed g blocks n (readable n u.inode) k 0 u.slot in
      subst IsData at.2 (data-listed n u.inode at.0 0 at.1)

  -- two slots have one block only where they are one
  once-slots : (m j n k : ℕ) → IsUsed blocks g.inodes m j → IsUsed blocks g.inodes n k
      → slot_of blocks m j ≡ slot_of blocks n k → (m ≡ n) × (j ≡ k)
  once-slots m j n k u v e =
      let a = slot-listed g blocks m (readable m u.inode) j 0 u.slot in
      let b = slot-listed g blocks n (readable n v.inode) k 0 v.slot in
      let m_high = within-inode m u.inode in
      let n_high = within-inode n v.inode in
      let same = once-places (blocks_of image) 1 (inodes_in image - 1) once-all m n u.inode.low (omega arith)
      v.inode.low (omega arith) a.0 b.0 0 a.1 b.1 (a.2 ∙ e ∙ sym b.2) in
      (same.0, sym a.3 ∙ ap₂ (λ i p. asked_slot (disk.blocks_for (disk.inode_at blocks i).size) p) same.0 same.1 ∙ b.3)

  -- a block before the data has its bit set, and one that is named, and no others
  bit-decides : (b : ℕ) → b < g.size
      → Decides (bit_of image b) ((b < data_start_of g.size g.inodes) ⊎ IsNamed blocks g.inodes b)
  bit-decides b high = subst (λ t. Decides t ((b < data_start_of g.size g.inodes) ⊎ IsNamed blocks g.inodes b))
      (sym (h.denotes.bitmap b (omega (arith, h.size)))) (named-decides g blocks legible b)

  -- ---- the disk

  pub IsSound-denoted : IsSound g blocks
  IsSound-denoted = record {
    parts = parts-held;
    head = head-held;
    kinds = λ n low high. let known =
        (HasKinds-denotes image files h.denotes).known n low (omega (arith, h.inodes))
        in omega (arith, kind-located g blocks parts-held n high);
    fits = λ n inode. let high =
        inode.high in omega (arith, size-most n inode, size-located g blocks parts-held n high);
    in_range = λ n k u. data-range (slot_of blocks n k) (slot-data n k u);
    once = once-slots;
    spare = λ n k inode spare. spare-zero g blocks n (readable n inode) (addresses-held n inode).spares k spare;
    marked = λ b high.
        let bit = bit-held g blocks legible b high in
        let decides = bit-decides b high in
        let one = Decides-eqb (disk.bit_of blocks (bitmap_start_of g.inodes) b) 1 in
        (λ e. decides.0 (bit ∙ one.1 e), λ why. one.0 (sym bit ∙ decides.1 why));
  }

  -- ---- what the count of free blocks needs

  pub data-named : All (λ b. (data_start_of g.size g.inodes ≤ b) × (b < g.size)) (named_blocks image)
  data-named p d l = data-range (get_or (named_blocks image) p d) (h.denotes.blocks p d l)
