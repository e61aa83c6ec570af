-- The slots of an inode that are there, one after the other: an index block is read after the number that names it.
use Rattle.imagecheck.proofs.Common.{◌≡◌, ℕ, ◌<◌, ◌≤◌, IsTrue, List, ap, arith, false, get_or, inl, inr, length, subst}
use Rattle.imagecheck.proofs.Common.{sym, true, ◌∙◌, cases_lt, nat_tests, cond, nat_lt, ◌==◌, ◌↔◌, is_data_in}
use Rattle.imagecheck.proofs.Common.{HasGeometry, Geometry, HasSuper, count_in, data_blocks, format_of, is_data_block}
use Rattle.imagecheck.proofs.Common.{named_by, number_in, size_in, Asks, address_of, asked_slot, holder_of, in_record}
use Rattle.imagecheck.proofs.Common.{single, slot_at, taken_blocks, there, FitsAddresses, direct-high, direct-low}
use Rattle.imagecheck.proofs.Common.{is_data_block-below, FitsSlot, IsFound, Lies, Format, ◌+◌, ◌-◌, ◌*◌, refl}
use Rattle.imagecheck.proofs.Common.{false≢true, inode_at, number_at, level_of, place_of, number_in-block}
use Rattle.imagecheck.proofs.Common.{number_in-record}
use Rattle.std.proofs.Common.{eq-eqb, eqb-true}
use Rattle.imagerules.proofs.Marking.{cond_no, cond_yes, is_data_in-is}
use Rattle.layout.proofs.Places as places
use Rattle.std.proofs.lemmas.List.FromFn.{get_or-map-range_with_len, length-map-range_with_len}

-- the number in the k-th slot that is asked for, where all of them are sound
pub record IsNamed (image : List ℕ) (n k number : ℕ) : Type 0 where
  pub within : k < length (named_by image n)
  pub is : number ≡ get_or (named_by image n) k 0
  pub inside : number < size_in image

module _ (image : List ℕ) (n : ℕ) (small : count_in image n ≤ single (format_of image)) where
  abbrev f : Format
  f = format_of image

  abbrev count : ℕ
  count = count_in image n

  -- the k-th slot of those that are there
  abbrev nth : ℕ → ℕ
  nth k = slot_at f count k

  abbrev rank : ℕ → ℕ
  rank j = places.rank f (direct-low image) (direct-high image) count j

  -- slot j is asked for, and comes before the k-th
  record ComesBefore (k j : ℕ) : Type 0 where
    pub asks : Asks f count j
    pub before : rank j < k

  below-there : {k : ℕ} → k < taken_blocks f count → k < there f count
  below-there l = omega (arith, places.taken-there f (direct-low image) (direct-high image) count small)

  -- ---- those that are asked for

  at-taken : (k : ℕ) → k < taken_blocks f count → nth k ≡ asked_slot f count k
  at-taken k l = places.at-asked f (direct-low image) (direct-high image) count k l

  asks-nth : (k : ℕ) → k < taken_blocks f count → Asks f count (nth k)
  asks-nth k l = subst (Asks f count) (sym (at-taken k l))
      (places.asked-asks f (direct-low image) (direct-high image) count k small l)

  rank-low : (j : ℕ) → Asks f count j → rank j < taken_blocks f count
  rank-low j a = places.rank-within f (direct-low image) (direct-high image) count j small a.within a.reached

  rank-is : (j : ℕ) → Asks f count j → nth (rank j) ≡ j
  rank-is j a = at-taken (rank j) (rank-low j a)
      ∙ places.rank-slot f (direct-low image) (direct-high image) count j small a.within a.reached

  -- the index block of the k-th comes before it, and so does the one of that
  holder-first : (k : ℕ) → k < there f count → in_record f (nth k) ≡ false → ComesBefore k (holder_of f (nth k))
  holder-first k high apart = elim (cases_lt k _) [
    | inl l ↦
        let a = asks-nth k l in
        record {
          asks = record {
            within = places.holder-within f (direct-low image) (direct-high image) (nth k) apart a.within;
            reached = omega (
              arith,
              places.holder-before f (direct-low image) (direct-high image) (nth k) apart
                  a.within,
              a.reached,
            );
          };
          before = subst (λ s. in_record f s ≡ false → rank (holder_of f s) < k) (sym (at-taken k l))
              (places.rank-holder f (direct-low image) (direct-high image) count k small l) apart;
        }
    | inr past ↦
        let a = (places.at-spare f (direct-low image) (direct-high image) count k small past high).index apart in
        record { asks = a; before = omega (arith, rank-low (holder_of f (nth k)) a) }
  ]

  holder-next : (k j : ℕ) → ComesBefore k j → in_record f j ≡ false → ComesBefore k (holder_of f j)
  holder-next k j b apart =
      let up = subst (λ s. in_record f s ≡ false → ComesBefore (rank j) (holder_of f s)) (rank-is j b.asks)
      (holder-first _ (below-there (rank-low j b.asks))) apart in
      record { asks = up.asks; before = omega (arith, up.before, b.before) }

  -- ---- where those before it were seen, the index blocks that lead to the k-th lie in the image

  module _ (sound : HasSuper image) (k : ℕ) (seen : (i : ℕ) → i < k → FitsSlot image n i) where
    seen-lies : (j : ℕ) → ComesBefore k j → Lies image n j
    seen-lies j b =
        let named = subst (λ s. IsTrue (is_data_block image (number_in image n s))) (rank-is j b.asks)
        ((seen (rank j) b.before).asked (rank-low j b.asks)) in
        let whole = sound.whole in
        omega (arith, is_data_block-below image (number_in image n j) named)

    pub IsFound-next : k < there f count → IsFound image n (nth k)
    IsFound-next high = record {
      within = elim (cases_lt k _) [
        | inl l ↦ (asks-nth k l).within
        | inr past ↦ (places.at-spare f (direct-low image) (direct-high image) count k small past high).within
      ];
      holder = λ apart. seen-lies _ (holder-first k high apart);
      above = λ apart held. seen-lies _ (holder-next k _ (holder-first k high apart) held);
    }

  -- the test of a number says whether it fits its slot
  pub FitsSlot-is : {g : Geometry} → HasGeometry image g → (k : ℕ)
      → IsTrue (cond (nat_lt k (taken_blocks f count)) (is_data_in g (number_in image n (nth k)))
      (number_in image n (nth k) == 0)) ↔ FitsSlot image n k
  FitsSlot-is {g} h k =
      let number = number_in image n (nth k) in
      elim (cases_lt k (taken_blocks f count)) [
        | inl l ↦ rw (
          cond_yes k (taken_blocks f count) (is_data_in g number) (number == 0) l,
          is_data_in-is image g h number,
        )
            (λ t. record { asked = λ _. t; spare = λ past. absurd (omega arith) }, λ fits. fits.asked l)
        | inr past ↦ rw (cond_no k (taken_blocks f count) (is_data_in g number) (number == 0) past) (
          λ t. record { asked = λ l. absurd (omega arith); spare = λ _. eqb-true number 0 t },
          λ fits. eq-eqb number 0 (fits.spare past),
        )
      ]

  -- ---- its numbers

  named-at : (k d : ℕ) → k < taken_blocks f count → get_or (named_by image n) k d ≡ number_in image n (nth k)
  unfolding named_by
  named-at k d l = get_or-map-range_with_len (λ j. number_in image n (asked_slot f count j)) 0 _ k k d l (omega arith)
      ∙ ap (number_in image n) (sym (at-taken k l))

  pub named-long : length (named_by image n) ≡ taken_blocks f count
  unfolding named_by
  named-long = length-map-range_with_len (λ j. number_in image n (asked_slot f count j)) 0 _

  pub FitsAddresses-from : ((k : ℕ) → k < there f count → FitsSlot image n k) → FitsAddresses image n
  FitsAddresses-from h = record {
    blocks = λ k d l.
        let t : k < taken_blocks f count = omega (arith, named-long) in
        subst (λ b. IsTrue (is_data_block image b)) (sym (named-at k d t)) ((h k (below-there t)).asked t);
    spares = λ j s.
        let at = places.spare-at f (direct-low image) (direct-high image) count j small s in
        ap (number_in image n) (sym at.3) ∙ (h at.0 at.2).spare at.1;
  }

  pub FitsSlot-at : FitsAddresses image n → (k : ℕ) → k < there f count → FitsSlot image n k
  FitsSlot-at h k high = record {
    asked = λ l. subst (λ b. IsTrue (is_data_block image b)) (named-at k 0 l)
        (h.blocks k 0 (omega (arith, named-long)));
    spare = λ past. h.spares _ (places.at-spare f (direct-low image) (direct-high image) count k small past high);
  }

  -- ---- where all numbers are sound

  module _ (sound : HasSuper image) (h : FitsAddresses image n) where
    seen : (i : ℕ) → i < taken_blocks f count → FitsSlot image n i
    seen i l = FitsSlot-at h i (below-there l)

    pub found-at : (k : ℕ) → k < taken_blocks f count → IsFound image n (nth k)
    found-at k l = IsFound-next sound k (λ i m. seen i (omega arith)) (below-there l)

    pub IsNamed-at : (k : ℕ) → k < taken_blocks f count → IsNamed image n k (number_in image n (nth k))
    IsNamed-at k l = record {
      within = omega (arith, named-long);
      is = sym (named-at k 0 l);
      inside = is_data_block-below image (number_in image n (nth k)) ((seen k l).asked l);
    }

    -- those of data
    module _ (k : ℕ) (l : k < count) where
      asks-data : Asks f count k
      asks-data = record {
        within = omega arith;
        reached = subst (λ i. i < count)
            (sym (places.first-data f (direct-low image) (direct-high image) k (omega arith))) l;
      }

      pub found-data : IsFound image n k
      found-data = subst (IsFound image n) (rank-is k asks-data) (found-at (rank k) (rank-low k asks-data))

      pub lies-data : Lies image n k
      lies-data = seen-lies sound _ seen k (record { asks = asks-data; before = rank-low k asks-data })

-- the number of a data block
pub data-at : (image : List ℕ) (n k d : ℕ) → k < count_in image n
    → get_or (data_blocks image n) k d ≡ number_in image n k
unfolding data_blocks
data-at image n k d l = get_or-map-range_with_len _ 0 _ k k d l (omega arith)

-- the first of all
pub first-here : (image : List ℕ) → in_record (format_of image) 0 ≡ true
unfolding in_record
first-here image = let low = direct-low image in grind (arith, nat_tests)

pub first-address : (image : List ℕ) → address_of (format_of image) 0 ≡ 0
unfolding address_of
first-address image = let low = direct-low image in grind (arith, nat_tests)

-- ---- the number in a slot, from its index: in the record, or in the index block of the slot that holds it

module _ (image : List ℕ) (n k : ℕ) {f : Format} (e : f ≡ format_of image) where
  pub number-own : in_record f k ≡ true → {place number : ℕ} → place ≡ address_of f k
      → number ≡ number_at 4 (inode_at n + 12 + 4 * place) image → number ≡ number_in image n k
  number-own here at is = is ∙ rw (at, e) (sym (number_in-record image n k (rw e at here)))

  module _ (apart : in_record f k ≡ false) {holder : ℕ} (held : holder ≡ holder_of f k) where
    pub number-held : {block place number : ℕ} → block ≡ number_in image n holder → place ≡ place_of f k
        → number ≡ number_at 4 (1024 * block + 4 * place) image → number ≡ number_in image n k
    number-held of at is = is
        ∙ rw (of, at, held, e) (sym
        (number_in-block image n _ refl (direct-low image) (direct-high image) k (rw e at apart)))

    module _ (found : IsFound image n k) where
      -- its holder is found before it, lies in the image, and is one level up
      pub holder-found : IsFound image n holder
      holder-found = rw (held, e) (record {
        within = places.holder-within _ (direct-low image) (direct-high image) k (rw e at apart) found.within;
        holder = found.above (rw e at apart);
        above = λ _ never. absurd
            (false≢true (sym never ∙ places.holder-holder _ (direct-low image) (direct-high image) k));
      })

      pub holder-lies : {block : ℕ} → block ≡ number_in image n holder → 1024 * block + 1024 ≤ length image
      holder-lies of = rw (of, held, e) (found.holder (rw e at apart))

      pub holder-up : 2 - level_of (format_of image) holder < 2 - level_of (format_of image) k
      holder-up =
          let up = places.level-holder (format_of image) (direct-low image) (direct-high image) k (rw e at apart)
          found.within in
          let most = places.level-most (format_of image) (direct-low image) (direct-high image)
          (holder_of (format_of image) k) in
          rw (held, e) (omega arith)
