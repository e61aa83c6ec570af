-- The last page of a space is unmapped, and its frame is given back.
use Rattle.vm.proofs.Common.{Ram, [], add-one, Adds, among, ap, arith, cases_eq, count_of, count_of-first, false}
use Rattle.vm.proofs.Common.{frame_at, frame_of, Frames, frames_below, free_of, further-same, further_at, held}
use Rattle.vm.proofs.Common.{held-inside, holders-table, holders_of, inl, inr, is_open, IsDense, IsFreeList, lookup_of}
use Rattle.vm.proofs.Common.{OwnsFrames, pages_below, refl, SameLeavesUpTo, suc, tables_below, tables_for, Trades, ℕ}
use Rattle.vm.proofs.Common.{◌+◌, ◌<◌, ◌∙◌, ◌∷◌, ◌≡◌, ◌≤◌, among-none, extra_of, IsPaged, IsTidy, Keeps, length}
use Rattle.vm.proofs.Common.{lookup-sound, Option, option_map, Removes, SameBut, Some, sym, Trades-give, trap_page}
use Rattle.vm.proofs.Common.{unwrap_or, mid_node, IsLast, Mid, ◌%◌, ◌/◌, SameTables}
use Rattle.vm.proofs.BesideLemmas.{Trades-held, beyond-held, pages_below-same, read_below-same, held-not_free}
use Rattle.vm.proofs.HeldLemmas.{count-held, page-held, table-held}
use Rattle.vm.proofs.DenseLemmas.{frame_at-same, lookup-parts, marks_at-same}
use Rattle.vm.proofs.Added.{IsAdded, IsCounted, added-count, added-same}

-- ---- the last page goes

mid-same : (a b : ℕ) → Mid a ≡ Mid b → a ≡ b
mid-same a b e = cc

-- page 0 is the last of its tables where a space has one page; the trap frame's is, where it has none
pub last-zero : {m : Ram} {r t n : ℕ} → n ≡ 0 → IsDense m r t (n + 1) → IsLast m r n
last-zero {n = n} zero is p small ne e = is.rest p (omega arith) small (λ f.
    let at : 67108862 / 262144 % 512 ≡ n / 262144 % 512 = mid-same _ _ (sym (ap mid_node f) ∙ e) in
    omega arith)

pub last-trap : {m : Ram} {r t : ℕ} → IsDense m r t 0 → IsLast m r trap_page
last-trap is p small ne e = is.rest p (omega arith) small ne

-- page n is unmapped, and then its frame f is given back
pub record IsUnmapped (m j : Ram) (r n f : ℕ) (s a : Frames) : Type 0 where
  pub was : frame_at m r n ≡ f
  pub removes : Removes (lookup_of m r) (lookup_of j r) n
  pub drops : Adds j m r n a s
  pub tidy : IsTidy j r
  pub paged : IsPaged j r a
  pub keeps : Keeps m j r s a
  pub extra : extra_of a ≡ extra_of s

-- its holder goes: it is free then, where it had no other one
pub record IsReleased (j k : Ram) (f : ℕ) (a w : Frames) : Type 0 where
  pub valid : IsFreeList k w
  pub holders : (v : ℕ) → holders_of k w v + count_of v (f ∷ []) ≡ holders_of j a v
  pub others : SameBut (f ∷ []) j k
  pub stays : 0 < further_at a f → k ≡ j

-- a frame that had one holder is given back
pub record IsGiven (j k : Ram) (f : ℕ) (a w : Frames) : Type 0 where
  pub last : further_at a f ≡ 0 → (free_of k w ≡ f ∷ free_of j a) × (extra_of w ≡ extra_of a)
  pub valid : IsFreeList k w
  pub others : SameBut (f ∷ []) j k

-- ---- the space without the page, whose frame it still holds

-- ---- and then it goes

-- the space has one page less, and the tables are those after it was unmapped
pub record IsDropped (m j k : Ram) (r t n : ℕ) (s w : Frames) : Type 0 where
  pub nodes : SameTables j k r
  pub space : OwnsFrames k r t n w
  pub pages : (b : ℕ) → b ≤ n → pages_below k r b ≡ pages_below m r b
  pub mapping : SameLeavesUpTo m k r n
  pub trap : frame_of k t ≡ frame_of m t
  pub trades : Trades m k s w (held m r t (n + 1)) (held k r t n)

module _ {m j : Ram} {r t n f : ℕ} {s a : Frames} (is : OwnsFrames m r t (suc n) s) (u : IsUnmapped m j r n f s a) where
  pub IsDense-unmapped : IsDense j r t n
  IsDense-unmapped = record {
    tree = u.paged.tree;
    tidy = u.tidy;
    small = omega arith;
    pages = λ p h. lookup-parts j r p (u.removes.others p (omega arith) (omega arith) ∙ is.dense.pages p (omega arith));
    leaves = λ p h. rw (marks_at-same m j r p (u.removes.others p (omega arith) (omega arith)))
        (is.dense.leaves p (omega arith));
    trap = u.removes.others trap_page (omega arith) (omega arith) ∙ is.dense.trap;
    rest = λ p high low ne. elim (cases_eq p n) [
      | inl e ↦ ap (lookup_of j r) e ∙ u.removes.changed
      | inr other ↦ u.removes.others p low other ∙ is.dense.rest p (omega arith) low ne
    ];
  }

  -- in the other direction, the page is added
  added : IsAdded j m r t n f a s
  added = record {
    dense = IsDense-unmapped;
    small = omega arith;
    frame = u.was;
    looks = λ p h. sym (u.removes.others p (omega arith) (omega arith));
    adds = u.drops;
  }

  -- what was held: the page's frame, the tables that went, and what is held now
  count-unmapped : (v : ℕ) → IsCounted j m r t n f a s v
  count-unmapped = added-count (added)

  -- the frame may be given back
  pub give-inside : f < length j
  give-inside =
      omega (arith, (lookup-sound is.dense.tree n (is.dense.pages n (omega arith))).0)

  pub give-held : among f (free_of j a) ≡ false
  give-held = among-none f (free_of j a)
      (omega (arith, count-unmapped f, held-not_free is f, count_of-first f f [] refl))

  holders-unmapped : (v : ℕ) → holders_of j a v + count_of v (tables_for m r n) ≡ holders_of m s v
  holders-unmapped v = omega (arith, holders-table is.free u.paged.free u.keeps.count u.extra v, count-unmapped v)

  OwnsFrames-unmapped : OwnsFrames j r t n a
  OwnsFrames-unmapped = record {
    dense = IsDense-unmapped;
    once = λ v. omega (arith, count-unmapped v);
    free = u.paged.free;
    own = λ v some. further-same s a v u.extra ∙ is.own v (omega (arith, count-unmapped v));
    alone = λ p h wide.
        let looks = u.removes.others p (omega arith) (omega arith) in
        ap (further_at a) (frame_at-same m j r p looks) ∙ further-same s a (frame_at m r p) u.extra
        ∙ is.alone p (omega arith) (ap is_open (sym (marks_at-same m j r p looks)) ∙ wide);
    held = λ v. omega (arith, count-unmapped v, holders-unmapped v);
  }

  -- a frame that has a holder and was no table of the space keeps its bytes
  bytes-unmapped : (v : ℕ) → 0 < holders_of m s v → count_of v (tables_below m r (suc n)) ≡ 0
      → frame_of j v ≡ frame_of m v
  bytes-unmapped v some none =
      u.keeps.others v (λ h. omega (arith, table-held is.dense h)) (held-inside m s v is.free some).1

  stays-unmapped : (v : ℕ) → 0 < count_of v (frames_below m r n) + count_of v (t ∷ []) → frame_of j v ≡ frame_of m v
  stays-unmapped v some =
      let two = added-same (added) in
      let more : 0 < count_of v (held j r t n) = omega (arith, count-held, ap (count_of v) two.1) in
      bytes-unmapped v (omega (arith, count-unmapped v))
      (omega (arith, count-unmapped v, count-held, ap (count_of v) two.1))

  pub dropped : (k : Ram) (w : Frames) → IsReleased j k f a w → IsDropped m j k r t n s w
  dropped k w g =
      let counts = count-unmapped in
      let holders = holders-unmapped in
      let give : Trades j k a w (f ∷ []) [] =
      Trades-give j k a w f u.paged.free g.holders g.others g.stays
      (omega (arith, counts f, holders f, count_of-first f f [] refl)) in
      let beside = Trades-held give (OwnsFrames-unmapped) (λ v. omega (arith, counts v, holders v)) g.valid in
      let stays = beside.stays in
      let looks : (p : ℕ) → p < n
      → lookup_of j r p ≡ lookup_of m r p = λ p h. u.removes.others p (omega arith) (omega arith) in
      record {
        nodes = stays.put.nodes;
        space = beside.space;
        pages = λ b le. pages_below-same j k r b (λ p h. stays.put.looks p)
            (λ p h. let v = frame_at j r p
            in give.others v (omega (arith, counts v, holders v, count-held, page-held j r n p (omega arith))))
            ∙ pages_below-same m j r b (λ p h. looks p (omega arith))
            (λ p h. stays-unmapped (frame_at m r p) (omega (arith, page-held m r n p (omega arith))));
        mapping = λ read b le. read_below-same read m k r b (λ p h. stays.put.looks p ∙ looks p (omega arith));
        trap = stays.trap ∙ stays-unmapped t (omega (arith, count_of-first t t [] refl));
        trades = rw add-one (record {
          count = give.count ∙ u.keeps.count;
          moved = λ v. omega (arith, counts v, holders v, ap (count_of v) beside.same);
          others = λ v more.
              give.others v (omega (arith, counts v, holders v))
              ∙ bytes-unmapped v (omega arith) (omega (arith, (beyond-held is v more).0));
          fresh = λ v none some. absurd (omega (arith, ap (count_of v) beside.same, counts v));
        });
      }

pub unmapped-was : (m : Ram) (r n : ℕ) {f : ℕ} {a : ℕ × ℕ} → lookup_of m r n ≡ Some a
    → ◌≡◌ {A = Option ℕ} (option_map (λ (x : ℕ × ℕ). x.0) (lookup_of m r n)) (Some f) → frame_at m r n ≡ f
unmapped-was m r n {f} {a} found e =
    let both : ◌≡◌ {A = Option ℕ} (Some a.0) (Some f) = ap (option_map (λ (x : ℕ × ℕ). x.0)) (sym found) ∙ e in
    ap (λ (o : Option (ℕ × ℕ)). (unwrap_or o (0, 0)).0) found ∙ ap (λ (o : Option ℕ). unwrap_or o 0) both
