-- Lemmas on dense spaces beside others: a frame is taken for the next page, and a space stays intact.
use Rattle.vm.proofs.Common.{Ram, KeepsTables, [], Adds, among, among-none, ap, arith, cases_eq, count_of}
use Rattle.vm.proofs.Common.{count_of-first, distinct-count, extra_of, false, frame_at, frame_of, Frames, free-first}
use Rattle.vm.proofs.Common.{free_of, free_of-same, further_at, get_or-set_other, HasTable, held, held-inside}
use Rattle.vm.proofs.Common.{holders_of, inl, inr, is_open, IsDense, IsFreeList, IsFreeList-same, IsNode, IsPaged}
use Rattle.vm.proofs.Common.{IsTidy, IsTree, IsTree-same, IsUserLeaf, Keeps, length, length-set, List, lookup_of}
use Rattle.vm.proofs.Common.{lookup_of-same, Maps, marks_at, Node, none-among, one-holder, Option, OwnsFrames, page_at}
use Rattle.vm.proofs.Common.{page_with, pages_below, Perm, read_at, read_below, read_by, refl, right_marks, slice_set}
use Rattle.vm.proofs.Common.{Some, suc, sym, table_at, table_at-same, tables_below, true, unwrap_or, zero, ℕ, ◌++◌, ◌+◌}
use Rattle.vm.proofs.Common.{◌<◌, ◌∙◌, ◌∷◌, ◌≡◌, ◌≢◌, ◌≤◌, entry_marks, holds, IsSpace, IsUntouched, SameLeaves}
use Rattle.vm.proofs.Common.{SameMap, SameTables, single, Space, Trades, Trades-beside}
use Rattle.vm.proofs.DenseLemmas.{IsDense-same, frame_at-same, held-same, marks_at-same, pages_below-more}
use Rattle.vm.proofs.DenseLemmas.{pages_below-zero}
use Rattle.vm.proofs.HeldLemmas.{count-held, page-held, table-held}

-- ---- a frame that is taken becomes the next page

-- frame f was free and is taken, and others keep their bytes
pub record IsTaken (m z : Ram) (s n : Frames) (f : ℕ) : Type 0 where
  pub taken : free_of m s ≡ f ∷ free_of m n
  pub after : IsFreeList m n
  pub count : length z ≡ length m
  pub others : (g : ℕ) → g ≢ f → frame_of z g ≡ frame_of m g
  pub extra : extra_of n ≡ extra_of s

pub list-after : (m z : Ram) (s q : Frames) (f : ℕ) → IsFreeList m s → free_of m s ≡ f ∷ free_of m q → IsFreeList m q
    → length z ≡ length m → ((g : ℕ) → g ≢ f → frame_of z g ≡ frame_of m g)
    → (free_of z q ≡ free_of m q) × IsFreeList z q
list-after m z s q f is taken after count others =
    let first = free-first is f (free_of m q) taken in
    let same : (g : ℕ) → among g (free_of m q) ≡ true
    → frame_of z g ≡ frame_of m g =
    λ g at. others g (λ e. cc (ap (λ x. among x (free_of m q)) e, at, first.1)) in
    (free_of-same m z q same, IsFreeList-same m z q after count same)

-- the page was added
pub record IsNext (z k : Ram) (r n f marks : ℕ) (q w : Frames) : Type 0 where
  pub leaf : IsUserLeaf marks
  pub inserts : Maps z k r n f marks
  pub adds : Adds z k r n q w
  pub tidy : IsTidy k r
  pub paged : IsPaged k r w
  pub keeps : Keeps z k r q w
  pub extra : extra_of w ≡ extra_of q

-- the pages that stay
pub read_below-same : (read : ℕ → Perm) (m k : Ram) (r n : ℕ) → ((p : ℕ) → p < n → lookup_of k r p ≡ lookup_of m r p)
    → read_below read k r n ≡ read_below read m r n
unfolding read_below
read_below-same read m k r zero looks = refl
read_below-same read m k r (suc n) looks =
    let here : read_at read k r n ≡ read_at read m r n =
    ap (λ (o : Option (ℕ × ℕ)). read_by read (unwrap_or o (0, 0))) (looks n (omega arith)) in
    rw (read_below-same read m k r n (λ p h. looks p (omega arith))) (ap (λ x. read_below read m r n ++ (x ∷ [])) here)

module _ (m k : Ram) (r : ℕ) where
  -- a page that is mapped as it was, to a frame that keeps its bytes
  pub page-kept : (p : ℕ) → lookup_of k r p ≡ lookup_of m r p
      → frame_of k (frame_at m r p) ≡ frame_of m (frame_at m r p) → page_at k r p ≡ page_at m r p
  page-kept p looks same =
      ap (λ x. page_with (frame_of k x) (marks_at k r p)) (frame_at-same m k r p looks)
      ∙ ap (page_with (frame_of k (frame_at m r p))) (marks_at-same m k r p looks)
      ∙ ap (λ b. page_with b (marks_at m r p)) same

  pub pages-each : (n : ℕ) → ((p : ℕ) → p < n → page_at k r p ≡ page_at m r p) → pages_below k r n ≡ pages_below m r n
  pages-each zero same = pages_below-zero k r ∙ sym (pages_below-zero m r)
  pages-each (suc n) same =
      pages_below-more k r n ∙ rw (same n (omega arith), pages-each n (λ p h. same p (omega arith)))
      (sym (pages_below-more m r n))

  pub pages_below-same : (n : ℕ) → ((p : ℕ) → p < n → lookup_of k r p ≡ lookup_of m r p)
      → ((p : ℕ) → p < n → frame_of k (frame_at m r p) ≡ frame_of m (frame_at m r p))
      → pages_below k r n ≡ pages_below m r n
  pages_below-same n looks same = pages-each n (λ p h. page-kept p (looks p h) (same p h))

pub IsTaken-set : (m z : Ram) (s q : Frames) (f : ℕ) (w : List ℕ) → free_of m s ≡ f ∷ free_of m q → IsFreeList m q
    → z ≡ slice_set m f w → extra_of q ≡ extra_of s → IsTaken m z s q f
IsTaken-set m z s q f w taken after e extra = record {
  taken = taken;
  after = after;
  count = rw e (length-set m f w);
  others = λ g ne. rw e (get_or-set_other m f g w [] ne);
  extra = extra;
}

-- tables that keep their bytes, and are neither free nor shared, are those of a page table beside the free frames
pub paged-same : {m k : Ram} {r : ℕ} {q : Frames} → IsTree m r → length k ≡ length m → KeepsTables m k r
    → IsFreeList k q
    → ((v : ℕ) → HasTable m r v → (among v (free_of k q) ≡ false) × (further_at q v ≡ 0)) → IsPaged k r q
paged-same {m} {k} {r} is len same free out =
    let old : (x : Node) (v : ℕ) → IsNode x → table_at k r x ≡ Some v
    → HasTable m r v = λ x v nx h. record
    { place = x; is_node = nx; at_place = sym (table_at-same m k r same x nx) ∙ h } in
    record {
      tree = IsTree-same m k r same is len;
      free = free;
      apart = λ x v nx h. (out v (old x v nx h)).0;
      own = λ x v nx h. (out v (old x v nx h)).1;
    }

-- ---- a space stays intact whatever is done beside it, also where it shares frames

-- tables that keep their bytes map what they mapped, and the space is intact
pub record StaysPut (m k : Ram) (r t n : ℕ) : Type 0 where
  pub tables : tables_below k r n ≡ tables_below m r n
  pub held : held k r t n ≡ held m r t n
  pub reads : SameLeaves m k r n
  pub looks : SameMap m k r
  pub nodes : SameTables m k r

-- tables that map what they mapped, over frames that keep their bytes
pub record StaysMapped (m k : Ram) (r t n : ℕ) : Type 0 where
  pub put : StaysPut m k r t n
  pub pages : pages_below k r n ≡ pages_below m r n
  pub trap : frame_of k t ≡ frame_of m t

module _ {m : Ram} {r t n : ℕ} (is : IsDense m r t n) where
  pub stays-put : (k : Ram) → KeepsTables m k r → StaysPut m k r t n
  stays-put k same =
      let looks = lookup_of-same m k r same in
      let both = held-same is k (λ p h. looks p) (λ x u nx h. table_at-same m k r same x nx ∙ h) in
      record {
        tables = both.0;
        held = rw (both.0, both.1) refl;
        reads = λ read. read_below-same read m k r n (λ p h. looks p);
        looks = looks;
        nodes = λ x nx. table_at-same m k r same x nx;
      }

  held-tables : (k : Ram) → ((f : ℕ) → 0 < count_of f (held m r t n) → frame_of k f ≡ frame_of m f) → (v : ℕ)
      → HasTable m r v → frame_of k v ≡ frame_of m v
  held-tables k same v h = same v (omega (arith, count-held, table-held is h))

  pub held-stays : (k : Ram) → ((f : ℕ) → 0 < count_of f (held m r t n) → frame_of k f ≡ frame_of m f)
      → StaysMapped m k r t n
  held-stays k same =
      let put = stays-put k (held-tables k same) in
      record {
        put = put;
        pages = pages_below-same m k r n (λ p h. put.looks p)
            (λ p h. same (frame_at m r p) (omega (arith, count-held, page-held m r n p h)));
        trap = same t (omega (arith, count-held, count_of-first t t [] refl));
      }

module _ {m : Ram} {r t n : ℕ} {s : Frames} (is : OwnsFrames m r t n s) where
  -- what a space holds is not free, and nothing is free twice
  pub held-not_free : (f : ℕ) → count_of f (held m r t n) + count_of f (free_of m s) ≤ 1
  held-not_free f = elim (cases_eq (count_of f (held m r t n)) 0) [
    | inl none ↦ omega (arith, distinct-count f (free_of m s) is.free.distinct)
    | inr some ↦ omega (arith, none-among f (free_of m s) (held-inside m s f is.free (omega arith)).1)
  ]

  -- a frame with more holders than this space is none of its tables, nor its trap frame, and isn't free
  pub beyond-held : (f : ℕ) → count_of f (held m r t n) < holders_of m s f
      → (count_of f (tables_below m r n) + count_of f (t ∷ []) ≡ 0) × (count_of f (free_of m s) ≡ 0)
  beyond-held f more =
      elim (cases_eq (count_of f (tables_below m r n) + count_of f (t ∷ [])) 0) [
        | inl none ↦ (none, none-among f (free_of m s) (held-inside m s f is.free (omega arith)).1)
        | inr some ↦ absurd (omega (arith, count-held, one-holder is.free f (is.own f (omega arith))))
      ]

  pub OwnsFrames-paged : IsPaged m r s
  OwnsFrames-paged = paged-same is.dense.tree refl (λ v h. refl) is.free (λ v h.
      let held_v = table-held is.dense h in
      (among-none v (free_of m s) (omega (arith, held-not_free v, count-held)), is.own v (omega arith)))

  pub owns-as : {k : Ram} {q : Frames} → length k ≡ length m → KeepsTables m k r → IsFreeList k q
      → ((v : ℕ) → 0 < count_of v (held m r t n) → further_at s v ≡ 0 → further_at q v ≡ 0)
      → ((v : ℕ) → count_of v (held m r t n) ≤ holders_of k q v)
      → OwnsFrames k r t n q
  owns-as {k} {q} len same free alone holders =
      let put = stays-put is.dense k same in
      record {
        dense = IsDense-same is.dense k len same;
        once = λ v. omega (arith, ap (count_of v) put.held);
        free = free;
        own = λ v some.
            let here : 0 < count_of v (tables_below m r n) + count_of v (t ∷ []) =
            omega (arith, ap (count_of v) put.tables) in
            alone v (omega (arith, count-held)) (is.own v here);
        alone = λ p h wide.
            let v = frame_at m r p in
            ap (further_at q) (frame_at-same m k r p (put.looks p))
            ∙ alone v (omega (arith, count-held, page-held m r n p h))
            (is.alone p h (ap is_open (sym (marks_at-same m k r p (put.looks p))) ∙ wide));
        held = λ v. omega (arith, ap (count_of v) put.held, holders v);
      }

-- a space of c pages is intact beside a trade of others
pub record Besides (m k : Ram) (n : Frames) (r q c : ℕ) : Type 0 where
  pub space : OwnsFrames k r q c n
  pub same : held k r q c ≡ held m r q c
  pub stays : StaysMapped m k r q c

-- ---- trades of more than one holder

module _ {m k : Ram} {s n : Frames} {old new : List ℕ} (t : Trades m k s n old new) where
  -- a frame that one holder alone holds stays so, whatever others trade
  pub alone-stays : (f : ℕ) → IsFreeList m s → IsFreeList k n → count_of f old + 1 ≤ holders_of m s f
      → further_at s f ≡ 0 → further_at n f ≡ 0
  alone-stays f is after room alone =
      let one = one-holder is f alone in
      single after f (elim (cases_eq (count_of f new) 0) [
        | inl none ↦ omega arith
        | inr some ↦ absurd (omega (arith, t.fresh f (omega arith) (omega arith)))
      ])

  -- what a trade of another holder leaves
  pub Trades-untouched : (b : Space) → IsSpace m b s
      → ((f : ℕ) → count_of f old + count_of f (holds m b) ≤ holders_of m s f) → IsUntouched m k b
  Trades-untouched b is room =
      let stays = held-stays is.dense k (Trades-beside t (holds m b) room) in
      record {
        mapping = stays.put.reads right_marks;
        entries = stays.put.reads entry_marks;
        pages = stays.pages;
        registers = stays.trap;
        frames = stays.put.held;
      }

  pub Trades-held : {r q c : ℕ} → OwnsFrames m r q c s
      → ((f : ℕ) → count_of f old + count_of f (held m r q c) ≤ holders_of m s f) → IsFreeList k n → Besides m k n r q c
  Trades-held {r} {q} {c} is room free =
      let same = Trades-beside t (held m r q c) room in
      let stays = held-stays is.dense k same in
      record {
        space = owns-as is t.count (held-tables is.dense k same) free
            (λ v some. alone-stays v is.free free (omega (arith, room v))) (λ v. omega (arith, room v));
        same = stays.put.held;
        stays = stays;
      }

  pub Trades-space : (b : Space) → IsSpace m b s
      → ((f : ℕ) → count_of f old + count_of f (holds m b) ≤ holders_of m s f) → IsFreeList k n → IsSpace k b n
  Trades-space b is room free = (Trades-held is room free).space

  pub Trades-with : (rest before after : List ℕ) → ((v : ℕ) → count_of v before ≡ count_of v rest + count_of v old)
      → ((v : ℕ) → count_of v after ≡ count_of v rest + count_of v new) → Trades m k s n before after
  Trades-with rest before after a b = record {
    count = t.count;
    moved = λ v. omega (arith, a v, b v);
    others = λ v more. t.others v (omega (arith, a v));
    fresh = λ v none some. t.fresh v (omega (arith, a v)) (omega (arith, a v, b v));
  }
