-- Pages and the trap frame are written: the space stays intact.
use Rattle.vm.proofs.Common.{mapping_of, read_at, Ram, [], among, among-none, ap, arith, cases_eq, cases_lt, count_of}
use Rattle.vm.proofs.Common.{count_of-first, entry_marks, ext_get_or, frame_at, frame_of, Frames, frames_below, free_of}
use Rattle.vm.proofs.Common.{free_of-same, further_at, get_or, get_or-set_other, get_or-set_same, HasTable, held}
use Rattle.vm.proofs.Common.{holders-free, holders_of, holds, inl, inr, is_open, IsDense, IsFreeList, IsFreeList-same}
use Rattle.vm.proofs.Common.{IsMapped, IsOnce, IsSpace, length, length-set, List, lookup-sound, ltb, marks_at}
use Rattle.vm.proofs.Common.{one-holder, one_if, OwnsFrames, Page, page_at, page_with, pages_below, pages_in, pages_of}
use Rattle.vm.proofs.Common.{refl, right_marks, slice_set, Space, Stands, sym, Trades, Trades-none, Trades-twice, true}
use Rattle.vm.proofs.Common.{ℕ, ◌<◌, ◌∙◌, ◌∷◌, ◌≡◌, ◌≢◌, ◌≤◌, put, put_bytes, suc, ◌+◌, append_assoc, drop, drop-drop}
use Rattle.vm.proofs.Common.{drop-set-lt, drop_all, length-append, length-drop, length-take, Memory, min, overwrite}
use Rattle.vm.proofs.Common.{Reframes, SameLeaves, sized, slice_get, Some, take, take-append-drop, take-suc-set}
use Rattle.vm.proofs.Common.{take_all, write_bytes, write_from, written, ◌%◌, ◌++◌, ◌-◌, ◌/◌}
use Rattle.vm.proofs.BesideLemmas.{owns-as, stays-put, StaysPut, held-not_free, pages_below-same}
use Rattle.vm.proofs.HeldLemmas.{count-held, page-held, pages-apart, table-held}
use Rattle.vm.proofs.DenseLemmas.{frame_at-same, IsDense-same, marks_at-same}
use Rattle.vm.proofs.PageLemmas.{get_or-pages, length-pages, get-mapping, mapped-page}
use Rattle.ram.proofs.MemoryLemmas.{frame_of-put_same, sized-full}
use Rattle.vm.proofs.ReachLemmas.{item-at}

-- only frames of pages and the trap frame have other bytes now
pub record Writes (m k : Ram) (r t n : ℕ) : Type 0 where
  pub count : length k ≡ length m
  pub others : (f : ℕ) → count_of f (t ∷ frames_below m r n) ≡ 0 → frame_of k f ≡ frame_of m f

module _ {m k : Ram} {r t n : ℕ} (is : IsDense m r t n) (once : (f : ℕ) → count_of f (held m r t n) ≤ 1)
    (w : Writes m k r t n) where
  tables-stay : (v : ℕ) → HasTable m r v → frame_of k v ≡ frame_of m v
  tables-stay v h = w.others v (omega (arith, once v, count-held, table-held is h))

  pub writes-put : StaysPut m k r t n
  writes-put = stays-put is k (tables-stay)

module _ {m k : Ram} {r t n : ℕ} {s : Frames} (is : OwnsFrames m r t n s) (w : Writes m k r t n) where
  free-stays : (g : ℕ) → among g (free_of m s) ≡ true → frame_of k g ≡ frame_of m g
  free-stays g at = elim (cases_eq (count_of g (t ∷ frames_below m r n)) 0) [
    | inl none ↦ w.others g none
    | inr some ↦ absurd (cc (at, among-none g (free_of m s) (omega (arith, held-not_free is g, count-held))))
  ]

  -- the space is intact beside free frames and other holders where frames with several holders aren't written
  pub space-stays : ((f : ℕ) → further_at s f ≢ 0 → frame_of k f ≡ frame_of m f)
      → OwnsFrames k r t n s × Trades m k s s (held m r t n) (held k r t n)
  space-stays private =
      let same = (writes-put is.dense is.once w).held in
      let stays = free-stays in
      let free : IsFreeList k s = IsFreeList-same m k s is.free w.count stays in
      let holders : (v : ℕ) → holders_of k s v ≡ holders_of m s v =
      λ v. omega (
        arith,
        holders-free is.free v,
        holders-free free v,
        ap (count_of v) (free_of-same m k s stays),
        ap (λ l. one_if (ltb v l)) w.count,
      ) in (
        owns-as is w.count (tables-stay is.dense is.once w) free (λ v some alone. alone)
            (λ v. omega (arith, holders v)),
        record {
          count = w.count;
          moved = λ v. omega (arith, holders v, ap (count_of v) same);
          others = λ v h. elim (cases_eq (further_at s v) 0) [
            | inl one ↦ w.others v (omega (arith, count-held, one-holder is.free v one))
            | inr more ↦ private v more
          ];
          fresh = λ v none some. absurd (omega (arith, ap (count_of v) same));
        },
      )

-- the space is intact where only its pages and its trap frame are written, and those alone that it alone holds
pub stands : (m k : Ram) (s : Space) → IsMapped m s → IsOnce m s → Writes m k s.root.0 s.trap.0 (pages_in s.size)
    → ((free : Frames) → IsSpace m s free → (f : ℕ) → further_at free f ≢ 0 → frame_of k f ≡ frame_of m f)
    → Stands m k s
stands m k s is once w private =
    let put = writes-put is once w in
    record {
      count = w.count;
      mapped = IsDense-same is k w.count (tables-stay is once w);
      once = λ f. omega (arith, once f, ap (count_of f) put.held);
      mapping = put.reads right_marks;
      entries = put.reads entry_marks;
      frames = put.held;
      space = λ free h. (space-stays h w (private free h)).0;
      trades = λ free h. (space-stays h w (private free h)).1;
    }

-- a page's frame is one of the memory, is neither another page's nor the trap frame
pub page-inside : (m : Ram) (r t n p : ℕ) → IsDense m r t n → p < n → frame_at m r p < length m
page-inside m r t n p is low = (lookup-sound is.tree p (is.pages p low)).0

pub page-apart : (m : Ram) (r t n p q : ℕ) → ((f : ℕ) → count_of f (held m r t n) ≤ 1) → p < n → q < n → q ≢ p
    → frame_at m r q ≢ frame_at m r p
page-apart m r t n p q once low high ne e =
    let one : (x : ℕ) → count_of x (frames_below m r n) ≤ 1 = λ x. omega (arith, once x, count-held) in
    elim (cases_lt p q) [
      | inl less ↦ pages-apart m r n p q one less high (sym e)
      | inr more ↦ pages-apart m r n q p one (omega arith) low e
    ]

pub pages-same : (m : Ram) (r t n p q : ℕ) → ((f : ℕ) → count_of f (held m r t n) ≤ 1) → p < n → q < n
    → frame_at m r p ≡ frame_at m r q → p ≡ q
pages-same m r t n p q once low high same =
    elim (cases_eq p q) [ inl e ↦ e | inr ne ↦ absurd (page-apart m r t n q p once high low ne same) ]

pub trap-apart : (m : Ram) (r t n p : ℕ) → ((f : ℕ) → count_of f (held m r t n) ≤ 1) → p < n → t ≢ frame_at m r p
trap-apart m r t n p once low e =
    omega (
      arith,
      once t,
      count-held,
      count_of-first t t [] refl,
      page-held m r n p low,
      ap (λ x. count_of x (frames_below m r n)) e,
    )

pub Writes-page : (m k : Ram) (r t n p : ℕ) (w : List ℕ) → p < n → k ≡ slice_set m (frame_at m r p) w → Writes m k r t n
Writes-page m k r t n p w low e =
    let f = frame_at m r p in
    record {
      count = rw e (length-set m f w);
      others = λ v none. rw e (get_or-set_other m f v w []
          (λ z. omega (arith, page-held m r n p low, ap (λ x. count_of x (frames_below m r n)) z)));
    }

pub Writes-trap : (m k : Ram) (r t n : ℕ) (w : List ℕ) → k ≡ slice_set m t w → Writes m k r t n
Writes-trap m k r t n w e = record {
  count = rw e (length-set m t w);
  others = λ v none. rw e (get_or-set_other m t v w [] (λ z. omega (arith, count_of-first v t (frames_below m r n) z)));
}

-- one frame is written, and it has one holder
pub private-set : (m k : Ram) (s : Frames) (f : ℕ) (w : List ℕ) → further_at s f ≡ 0 → k ≡ slice_set m f w → (v : ℕ)
    → further_at s v ≢ 0 → frame_of k v ≡ frame_of m v
private-set m k s f w one e v more = rw e (get_or-set_other m f v w [] (λ z. more (ap (further_at s) z ∙ one)))

-- a store into an open page keeps the space
pub space-stored : (m k : Ram) (s : Space) (p : ℕ) (w : List ℕ) → IsMapped m s → IsOnce m s → p < pages_in s.size
    → is_open (marks_at m s.root.0 p) ≡ true → k ≡ slice_set m (frame_at m s.root.0 p) w → Stands m k s
space-stored m k s p w is once low wide e =
    stands m k s is once (Writes-page m k s.root.0 s.trap.0 (pages_in s.size) p w low e)
    (λ free h. private-set m k free (frame_at m s.root.0 p) w (h.alone p low wide) e)

-- and sets that page's bytes
pub pages-stored : (m k : Ram) (s : Space) (p : ℕ) (w : List ℕ) → IsMapped m s → IsOnce m s → p < pages_in s.size
    → k ≡ slice_set m (frame_at m s.root.0 p) w
    → pages_of k s ≡ slice_set (pages_of m s) p (page_with w (marks_at m s.root.0 p))
pages-stored m k s p w is once low e =
    let r = s.root.0 in
    let t = s.trap.0 in
    let n = pages_in s.size in
    let f = frame_at m r p in
    let d : Page = page_with w (marks_at m r p) in
    let old = pages_below m r n in
    let looks = (writes-put is once (Writes-page m k r t n p w low e)).looks in
    let page : (q : ℕ) → page_at k r q ≡ page_with (frame_of k (frame_at m r q)) (marks_at m r q) =
    λ q. ap (λ x. page_with (frame_of k x) (marks_at k r q)) (frame_at-same m k r q (looks q))
    ∙ ap (page_with (frame_of k (frame_at m r q))) (marks_at-same m k r q (looks q)) in
    let here : page_at k r p ≡ d = page p
    ∙ ap (λ b. page_with b (marks_at m r p))
    (ap (λ x. frame_of x f) e ∙ get_or-set_same m f w [] (page-inside m r t n p is low)) in
    let others : (q : ℕ) → q < n → q ≢ p
    → page_at k r q ≡ page_at m r q = λ q h ne. page q
    ∙ ap (λ b. page_with b (marks_at m r q))
    (ap (λ x. frame_of x (frame_at m r q)) e
    ∙ get_or-set_other m f (frame_at m r q) w [] (page-apart m r t n p q once low h ne)) in
    ext_get_or d (pages_below k r n) (slice_set old p d)
    (length-pages k r n ∙ sym (length-set old p d ∙ length-pages m r n)) (λ q h.
    let inside : q < n = omega (arith, length-pages k r n) in
    get_or-pages k r n q d inside ∙ (elim (cases_eq q p) [
      | inl z ↦ ap (page_at k r) z ∙ here
          ∙ sym (ap (λ x. get_or (slice_set old p d) x d) z
          ∙ get_or-set_same old p d d (omega (arith, length-pages m r n)))
      | inr ne ↦ others q inside ne ∙ sym (get_or-set_other old p q d d ne ∙ get_or-pages m r n q d inside)
    ]))

-- the pages keep their bytes where only the trap frame is written
pub pages-kept : (m k : Ram) (s : Space) (w : List ℕ) → IsMapped m s → IsOnce m s → k ≡ slice_set m s.trap.0 w
    → pages_of k s ≡ pages_of m s
pages-kept m k s w is once e =
    pages_below-same m k s.root.0 (pages_in s.size)
    (λ p h. (writes-put is once (Writes-trap m k s.root.0 s.trap.0 (pages_in s.size) w e)).looks p)
    (λ p h. rw e (get_or-set_other m s.trap.0 (frame_at m s.root.0 p) w []
    (λ z. trap-apart m s.root.0 s.trap.0 (pages_in s.size) p once h (sym z))))

pub Stands-none : (m : Ram) (s : Space) → IsMapped m s → IsOnce m s → Stands m m s
Stands-none m s is once =
    record {
      count = refl;
      mapped = is;
      once = once;
      mapping = refl;
      entries = refl;
      frames = refl;
      space = λ free h. h;
      trades = λ free h. Trades-none m free (holds m s);
    }

pub Stands-twice : (m k l : Ram) (s : Space) → Stands m k s → Stands k l s → Stands m l s
Stands-twice m k l s a b = record {
  count = b.count ∙ a.count;
  mapped = b.mapped;
  once = b.once;
  mapping = b.mapping ∙ a.mapping;
  entries = b.entries ∙ a.entries;
  frames = b.frames ∙ a.frames;
  space = λ free h. b.space free (a.space free h);
  trades = λ free h. Trades-twice (a.trades free h) (b.trades free (a.space free h));
}

-- ---- bytes that are written a page at a time

write_from-none : (ps : List Page) (at : ℕ) → write_from ps at [] ≡ ps
write_from-none [] at = refl
write_from-none (p ∷ ps) at = refl

-- nothing is written
pub write-none : (mem : Memory) (at : ℕ) → write_bytes mem at [] ≡ mem
unfolding write_bytes
write-none mem at = ap (λ ps. take (at / 4096) mem ++ ps) (write_from-none (drop (at / 4096) mem) (at % 4096))
    ∙ take-append-drop (at / 4096) mem

write_from-first : (p : Page) (ps : List Page) (at : ℕ) (bs : List ℕ) → 0 < length bs
    → write_from (p ∷ ps) at bs ≡ written p at (take (4096 - at) bs) ∷ write_from ps 0 (drop (4096 - at) bs)
write_from-first p ps at [] h = absurd (omega arith)
write_from-first p ps at (b ∷ bs) h = refl

-- the part that lies in the first page is written, and then the rest
whole-page : (mem : Memory) (at : ℕ) (p : Page) (bs : List ℕ) → 0 < length bs → slice_get mem (at / 4096) ≡ Some p
    → write_bytes (slice_set mem (at / 4096) (written p (at % 4096) (take (4096 - at % 4096) bs)))
    (at + (4096 - at % 4096)) (drop (4096 - at % 4096) bs) ≡ write_bytes mem at bs
unfolding write_bytes
whole-page mem at p bs some here =
    let q = at / 4096 in
    let o = at % 4096 in
    let w = written p o (take (4096 - o) bs) in
    let rest = drop (4096 - o) bs in
    let page : (at + (4096 - o)) / 4096 ≡ suc q = omega arith in
    let start : (at + (4096 - o)) % 4096 ≡ 0 = omega arith in
    let front : take (suc q) (slice_set mem q w) ≡ take q mem ++ (w ∷ []) =
    take-suc-set mem q w (item-at mem q p here).1 in
    let back : drop (suc q) (slice_set mem q w) ≡ drop (suc q) mem = drop-set-lt (suc q) mem q w (omega arith) in
    let first : write_from (drop q mem) o bs ≡ w ∷ write_from (drop (suc q) mem) 0 rest =
    ap (λ l. write_from l o bs) ((item-at mem q p here).0) ∙ write_from-first p (drop (suc q) mem) o bs some in
    rw (page, start, front, back)
    (append_assoc (take q mem) (w ∷ []) (write_from (drop (suc q) mem) 0 rest)
    ∙ sym (ap (λ l. take q mem ++ l) first))

pub write-page : (mem : Memory) (at n : ℕ) (p : Page) (bs : List ℕ) → 0 < length bs
    → slice_get mem (at / 4096) ≡ Some p → n ≡ min (4096 - at % 4096) (length bs)
    → write_bytes (slice_set mem (at / 4096) (written p (at % 4096) (take n bs))) (at + n) (drop n bs)
    ≡ write_bytes mem at bs
write-page mem at n p bs some here is = elim (cases_lt (length bs) (4096 - at % 4096)) [
  | inl short ↦
      let l = 4096 - at % 4096 in
      let all : n ≡ length bs = omega arith in
      let none : drop n bs ≡ [] = drop_all n bs (omega arith) in
      let none_l : drop l bs ≡ [] = drop_all l bs (omega arith) in
      let same : take n bs ≡ take l bs = take_all n bs (omega arith) ∙ sym (take_all l bs (omega arith)) in
      let k = slice_set mem (at / 4096) (written p (at % 4096) (take n bs)) in
      rw (none, write-none k (at + n), same)
      (rw (none_l, write-none (slice_set mem (at / 4096) (written p (at % 4096) (take l bs))) (at + l))
      at (whole-page mem at p bs some here))
  | inr long ↦
      let e : n ≡ 4096 - at % 4096 = omega arith in
      rw e (whole-page mem at p bs some here)
]

-- ---- the frames

-- a page whose frame the space alone holds is written
pub put-reframes : (m k : Ram) (s : Space) (q : Frames) (p at : ℕ) (bs : List ℕ) → IsSpace m s q → p < pages_in s.size
    → further_at q (frame_at m s.root.0 p) ≡ 0 → k ≡ put m (frame_at m s.root.0 p) at bs → Reframes m k s q q
unfolding put
put-reframes m k s q p at bs is low sole e =
    let r = s.root.0 in
    let n = pages_in s.size in
    let f = frame_at m r p in
    let w = put_bytes (frame_of m f) at bs in
    let both = space-stays is (Writes-page m k r s.trap.0 n p w low e) (private-set m k q f w sole e) in
    record {
      space = both.0;
      registers = rw e (get_or-set_other m f s.trap.0 w [] (trap-apart m r s.trap.0 n p is.once low));
      trades =
          both.1;
    }

module _ (m k : Ram) (s : Space) (p at : ℕ) (bs : List ℕ) (is : IsMapped m s) (once : IsOnce m s)
    (low : p < pages_in s.size) (e : k ≡ put m (frame_at m s.root.0 p) at bs) where
  -- the leaves are read as they were
  pub put-reads : SameLeaves m k s.root.0 (pages_in s.size)
  unfolding put
  put-reads = (writes-put is once
      (Writes-page m k s.root.0 s.trap.0 (pages_in s.size) p (put_bytes (frame_of m (frame_at m s.root.0 p)) at bs) low
      e)).reads

  pub put-written : pages_of k s ≡ slice_set (pages_of m s) p (written (page_at m s.root.0 p) at bs)
  unfolding put put_bytes
  put-written =
      let bytes = frame_of m (frame_at m s.root.0 p) in
      let same : put_bytes bytes at bs ≡ overwrite bytes at bs =
      sym (append_assoc (take at bytes) bs (drop (at + length bs) bytes)) in
      pages-stored m k s p (put_bytes bytes at bs) is once low e
      ∙ ap (λ b. slice_set (pages_of m s) p (page_with b (marks_at m s.root.0 p))) same

-- ---- bytes that lie in one page

module _ (m k : Ram) (s : Space) (address : ℕ) (bs : List ℕ) (is : IsMapped m s) (once : IsOnce m s)
    (low : address / 4096 < pages_in s.size) (e : k ≡ put m (frame_at m s.root.0 (address / 4096)) (address % 4096) bs)
  where
    abbrev page : ℕ
    page = address / 4096

    abbrev after : List ℕ → Memory
    after new = slice_set (pages_of m s) page (written (page_at m s.root.0 page) (address % 4096) new)

    -- all of them are written
    pub put-stored : 0 < length bs → length bs ≤ 4096 - address % 4096
        → pages_of k s ≡ write_bytes (pages_of m s) address bs
    put-stored some fits =
        let n = length bs in
        let here = mapped-page m (mapping_of m s) page (read_at right_marks m s.root.0 page)
        (sym (get-mapping right_marks m s.root.0 (pages_in s.size) page low)) in
        put-written m k s page (address % 4096) bs is once low e
        ∙ sym (write-none (after bs) (address + n))
        ∙ ap (write_bytes (after bs) (address + n)) (sym (drop_all n bs (omega arith)))
        ∙ ap (λ new. write_bytes (after new) (address + n) (drop n bs)) (sym (take_all n bs (omega arith)))
        ∙ write-page (pages_of m s) address n (page_at m s.root.0 page) bs some here (omega arith)

    -- and the space is intact where the page is open
    pub put-stands : is_open (marks_at m s.root.0 page) ≡ true → Stands m k s
    unfolding put
    put-stands wide = space-stored m k s page (put_bytes (frame_of m (frame_at m s.root.0 page)) (address % 4096) bs) is
        once low wide e

-- ---- a part of a frame is written

-- what was lent is returned with the part written
pub part-put : (m : Ram) (f at : ℕ) (bs page new : List ℕ) (n : ℕ) → n ≡ length bs → at + length bs ≤ 4096
    → length (frame_of m f) ≡ 4096 → page ≡ frame_of m f → new ≡ bs
    → slice_set m f (sized (take at page ++ (new ++ drop n (drop at page)))) ≡ put m f at bs
unfolding put put_bytes
part-put m f at bs page new n is fits whole same e =
    let parts : take at page ++ (new ++ drop n (drop at page)) ≡ take at (frame_of m f)
    ++ (bs ++ drop (at + length bs) (frame_of m f)) =
    rw (same, e, is, drop-drop (length bs) at (frame_of m f)) refl in
    let full : length (take at (frame_of m f) ++ (bs ++ drop (at + length bs) (frame_of m f))) ≡ 4096 =
    omega (
      arith,
      length-append (take at (frame_of m f)) (bs ++ drop (at + length bs) (frame_of m f)),
      length-append bs (drop (at + length bs) (frame_of m f)),
      length-take at (frame_of m f),
      length-drop (at + length bs) (frame_of m f),
    ) in
    ap (λ b. slice_set m f (sized b)) parts ∙ ap (slice_set m f) (sized-full _ full)

-- bytes are put into a frame: it alone has others
pub put-alone : (m : Ram) (f o : ℕ) (bs : List ℕ) {k : Ram} → f < length m → k ≡ put m f o bs
    → k ≡ slice_set m f (frame_of k f)
unfolding put
put-alone m f o bs within e =
    e ∙ ap (slice_set m f) (sym (ap (λ (n : Ram). frame_of n f) e ∙ frame_of-put_same m f o bs within))
