-- The number of the topmost new block is written where it belongs.
use Rattle.inode.proofs.Common.{◌≡◌, ℕ, ◌+◌, ◌/◌, ◌<◌, ◌≤◌, ◌⊎◌, List, false, true, length, get_or, ap, sym, ◌∙◌, arith}
use Rattle.inode.proofs.Common.{inl, inr, subst, cases_eq, block_at, splice, Fits, number_at, DiskInode, Asks, IsUsed}
use Rattle.inode.proofs.Common.{address_of, blocks_for, InData, Blocks, bytes_of, first_of, free_blocks, holder_of}
use Rattle.inode.proofs.Common.{in_record, index_for, inode_at, place_of, slot_in, slot_of, single, slots, asks_holder}
use Rattle.inode.proofs.Common.{in_record-cases, Geometry, HasInode, BeginsBlock, Prepares, refl, format}
use Rattle.inode.proofs.Common.{address-within, count-begins, holder-first, holder-within, slot_in-same, HasIndex}
use Rattle.inode.proofs.Common.{IsHung, ◌≢◌, ◌*◌, ◌^◌, [], set, cases_lt, get_or-set_other, get_or-set_same}
use Rattle.inode.proofs.Common.{little_bytes, little_number, part-splice_apart, part-splice_same, PutsBlock}
use Rattle.inode.proofs.Common.{PutsBlock-write, address-once, holder-index, holder-once, place-within}
use Rattle.inode.proofs.Growing.{own_slot, own_used, used_apart, Fits-address, Fits-size, own_node, Leaves-free}
use Rattle.inode.proofs.Growing.{Leaves-put, Leaves-then}
use Rattle.inode.proofs.Reading.{number-part}
use Rattle.inode.proofs.Raised.{Below, IsNew, Rises}
use Rattle.inode.proofs.Rising.{Hangs, Prepares-hangs, clash}
use Rattle.byteorder.specs.Numbers.{little_number-reads_back}

-- ---- numbers in a block

number_at-same : (block : List ℕ) (i v : ℕ) → v < 2 ^ 32 → 4 * i + 4 ≤ length block
    → number_at (splice (4 * i) (little_bytes 4 v) block) i ≡ v
number_at-same block i v fits room =
    sym (number-part i (splice (4 * i) (little_bytes 4 v) block))
    ∙ ap (little_number 4) (part-splice_same (4 * i) 4 (little_bytes 4 v) block refl room)
    ∙ little_number-reads_back 4 v [] fits

number_at-other : (block : List ℕ) (i j v : ℕ) → 4 * i + 4 ≤ length block → 4 * j + 4 ≤ length block → j ≢ i
    → number_at (splice (4 * i) (little_bytes 4 v) block) j ≡ number_at block j
number_at-other block i j v room_i room_j apart =
    sym (number-part j (splice (4 * i) (little_bytes 4 v) block))
    ∙ ap (λ b. number_at b 0)
    (part-splice_apart (4 * j) 4 (4 * i) (little_bytes 4 v) block room_i room_j
    (elim (cases_lt j i) [ inl l ↦ inl (omega arith) | inr l ↦ inr (omega arith) ]))
    ∙ number-part j block

module _ {g : Geometry} {old now : Blocks} {n t b : ℕ} {inode : DiskInode} {bytes : List ℕ}
    (held : HasInode g old n inode) (rises : Rises g old now (inode.size / 1024) t b bytes) where
  abbrev number : ℕ → ℕ
  number = rises.value

  -- a block in use is no new one, and is as it was
  away : (j : ℕ) → IsUsed old g.inodes n j → IsNew (inode.size / 1024) t rises.value (slot_of old n j) → ⊥
  away j u (k, f, e) = used_apart held n j (number k) u (rises.free k f) (sym e)

  pub stays_held : (j : ℕ) → IsUsed old g.inodes n j → block_at now (slot_of old n j) ≡ block_at old (slot_of old n j)
  stays_held j u = rises.leaves.rest (slot_of old n j) (held.sound.in_range n j u).0 (away j u)

  module _ (stays : (h : ℕ) → IsUsed old g.inodes n h → Below (inode.size / 1024) t h → ⊥) where
    -- ---- into the record

    pub Hangs-record : {next : DiskInode} → length inode.addresses ≡ 13 → in_record t ≡ true
        → next.addresses ≡ set inode.addresses (address_of t) (number t)
        → Hangs rises now n inode next (IsNew (inode.size / 1024) t number)
    Hangs-record {next} places here addresses = record {
      leaves = rises.leaves;
      touched = λ p f. inl f;
      free = refl;
      record_new = λ j h f. elim (cases_eq j t) [
        | inl e ↦ rw (addresses, e)
            (get_or-set_same inode.addresses (address_of t) (number t) 0
            (omega (arith, address-within t here rises.comes.within)))
        | inr e ↦ absurd (clash j h (rises.inside j f e).0)
      ];
      record_old = λ j h f. rw addresses
          (get_or-set_other inode.addresses (address_of t) (address_of j) (number t) 0
          (λ e. f (subst (Below (inode.size / 1024) t) (sym (address-once j t h here e)) (rises.comes, omega arith))));
      same = λ j f. refl;
      held_new = λ j h u f. elim (cases_eq j t) [
        | inl e ↦ absurd (clash t here (ap in_record (sym e) ∙ h))
        | inr e ↦ absurd
            (stays (holder_of j) u (rises.inside j f e).1)
      ];
      held_old = λ j h w u f. ap (λ b. number_at b (place_of j)) (stays_held (holder_of j) u);
    }

    -- ---- into an index block that the file has

    module _ {new : Blocks} (apart : in_record t ≡ false) (holder : IsUsed old g.inodes n (holder_of t))
        (written : new ≡ set now (slot_of old n (holder_of t))
        (splice (4 * place_of t) (little_bytes 4 (number t)) (block_at now (slot_of old n (holder_of t))))) where
      abbrev q : ℕ
      q = slot_of old n (holder_of t)

      q_range : InData g q
      q_range = held.sound.in_range n (holder_of t) holder

      room : {j : ℕ} → in_record j ≡ false → j < slots → 4 * place_of j + 4 ≤ length (block_at old q)
      room {j} h w = omega (
        arith,
        place-within j h w,
        held.sound.parts.sizes q (omega (arith, q_range.1, held.sound.parts.count)),
      )

      puts : PutsBlock now new q (splice (4 * place_of t) (little_bytes 4 (number t)) (block_at now q))
      puts =
          let r = q_range.1 in
          let p = place-within t apart rises.comes.within in
          PutsBlock-write now new q (4 * place_of t) (little_bytes 4 (number t)) rises.leaves.sizes
          (omega (arith, rises.leaves.count, held.sound.parts.count)) (omega arith) written

      q_block : block_at new q ≡ splice (4 * place_of t) (little_bytes 4 (number t)) (block_at old q)
      q_block = puts.here ∙ ap (splice (4 * place_of t) (little_bytes 4 (number t))) (stays_held (holder_of t) holder)

      -- the numbers of an index block that the file has
      number_here : (j : ℕ) → in_record j ≡ false → j < slots → IsUsed old g.inodes n (holder_of j) → j ≢ t
          → number_at (block_at new (slot_of old n (holder_of j))) (place_of j)
          ≡ number_at (block_at old (slot_of old n (holder_of j))) (place_of j)
      number_here j h w u other = elim (cases_eq (slot_of old n (holder_of j)) q) [
        | inl met ↦
            let same : holder_of j ≡ holder_of t = (held.sound.once n (holder_of j) n (holder_of t) u holder met).1 in
            rw (met, q_block) (number_at-other (block_at old q) (place_of t) (place_of j) (number t)
            (room apart rises.comes.within) (room h w)
            (λ e. other (holder-once j t h apart w rises.comes.within same e)))
        | inr far ↦ ap (λ b. number_at b (place_of j))
            (puts.rest (slot_of old n (holder_of j)) far ∙ stays_held (holder_of j) u)
      ]

      small : number t < 2 ^ 32
      small = omega (arith, (rises.free t (rises.comes, omega arith)).high, held.sound.parts.size_high)

      pub Hangs-block : {next : DiskInode} → next.addresses ≡ inode.addresses
          → Hangs rises new n inode next (λ p. IsNew (inode.size / 1024) t number p ⊎ (p ≡ q))
      Hangs-block addresses =
          let put = Leaves-put g puts q_range.0 in
          record {
            leaves = Leaves-then rises.leaves put (λ c f. elim f [ inl new_one ↦ new_one | inr none ↦ absurd none ])
                (λ c f. inl f) (λ p f. f);
            touched = λ p f. elim f [
              | inl new_one ↦ inl new_one
              | inr e ↦ inr
                  (holder_of t, holder, holder-index t apart, sym e)
            ];
            free = Leaves-free put;
            record_new = λ j h f. elim (cases_eq j t) [
              | inl e ↦ absurd (clash j h (ap in_record e ∙ apart))
              | inr e ↦ absurd
                  (clash j h (rises.inside j f e).0)
            ];
            record_old = λ j h f. ap (λ l. get_or l (address_of j) 0) addresses;
            same = λ j f. puts.rest (number j) (λ e. away (holder_of t) holder (j, f, e));
            held_new = λ j h u f. elim (cases_eq j t) [
              | inl e ↦ rw (e, q_block)
                  (number_at-same (block_at old q) (place_of t) (number t) small (room apart rises.comes.within))
              | inr e ↦ absurd (stays (holder_of j) u (rises.inside j f e).1)
            ];
            held_old = λ j h w u f. number_here j h w u
                (λ e. f (subst (Below (inode.size / 1024) t) (sym e) (rises.comes, omega arith)));
          }

module _ {g : Geometry} {old : Blocks} {n : ℕ} {inode : DiskInode} {bytes : List ℕ} (held : HasInode g old n inode)
    (begins : BeginsBlock inode bytes) where
  pub below_most : inode.size / 1024 < single
  below_most = omega (arith, begins.short, begins.some)

  module _ {now : Blocks} {t b : ℕ} (rises : Rises g old now (inode.size / 1024) t b bytes) where
    pub top_within : t < slots
    top_within = rises.comes.within

    -- blocks are left for what is above the topmost
    pub left_free : (more : ℕ) → index_for (inode.size / 1024 + 1) ≡ index_for (inode.size / 1024) + more
        → (0 < more → 1 + more ≤ free_blocks g old) → in_record t ≡ false → place_of t ≡ 0 → 0 < free_blocks g now
    left_free more counts enough apart zero =
        let c = count-begins t rises.comes.within apart zero in
        let p : index_for (first_of t) ≡ index_for (inode.size / 1024) = ap index_for rises.comes.first in
        let q : index_for (first_of t + 1) ≡ index_for (inode.size / 1024 + 1) =
        ap (λ x. index_for (x + 1)) rises.comes.first in
        let r = rises.balance in
        let some = enough (omega arith) in
        omega arith

    -- ---- the topmost is the last: it lies in no block that begins with it

    module _ (last : in_record t ≡ false → place_of t ≡ 0 → ⊥) where
      index_same : (h : ℕ) → Asks inode.size h → slot_in now inode h ≡ slot_of old n h
      index_same h a =
          slot_in-same old now inode
          (λ j far b. subst (λ s. block_at now s ≡ block_at old s) (own_slot held j)
          (stays_held held rises j (own_used held j b))) h (asks_holder a) ∙ sym (own_slot held h)

      pub last_index : HasIndex now inode
      last_index h a = rw (index_same h a)
          (omega (arith, (held.sound.in_range n h (own_used held h a)).1, rises.leaves.count, held.sound.parts.count))

      pub last_holder : in_record t ≡ false → Asks inode.size (holder_of t)
      last_holder apart =
          let l = holder-first t apart rises.comes.within (last apart) in
          record {
            within = holder-within t apart rises.comes.within;
            reached = omega (arith, rises.comes.first, begins.whole);
          }

      stays : (h : ℕ) → IsUsed old g.inodes n h → Below (inode.size / 1024) t h → ⊥
      stays h u f =
          let e : blocks_for inode.size ≡ blocks_for (inode_at old n).size =
          ap (λ (i : DiskInode). blocks_for i.size) held.same in
          let r = u.slot.reached in
          let first = f.0.first in
          omega (arith, begins.whole)

      pub Prepares-last : Fits inode → {new : Blocks} {size : ℕ} {next : DiskInode}
          → IsHung now new inode t b size next → size ≡ inode.size + length bytes
          → Prepares g old new n next (splice inode.size bytes (bytes_of old n))
      Prepares-last fits {new} {size} {next} hung size_is = elim (in_record-cases t) [
        | inl here ↦
            let (same, is) = hung.in_own here in
            let small : rises.value t < format.most =
            omega (arith, (rises.free t (rises.comes, omega arith)).high, held.sound.parts.size_high) in
            rw (is, same, size_is, ← rises.top)
            (Prepares-hangs held begins refl rises last (Hangs-record held rises stays fits.places here refl)
            (Fits-address fits begins.short (address_of t) (rises.value t) (address-within t here rises.comes.within)
            small) (own_node held _ _))
        | inr apart ↦
            let (put, is) = hung.in_block apart in
            let holder = last_holder apart in
            rw (is, size_is)
            (Prepares-hangs held begins refl rises last
            (Hangs-block held rises stays apart (own_used held (holder_of t) holder)
            (rw (← index_same (holder_of t) holder, rises.top) put) refl)
            (Fits-size fits begins.short) (own_node held _ _))
      ]
