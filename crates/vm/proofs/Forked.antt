-- A page of a space is shared with a space that is made.
use Rattle.vm.proofs.Common.{Ram, [], add-one, ap, arith, cases_eq, count_of, count_of-append, count_of-other, false}
use Rattle.vm.proofs.Common.{frame_at, frame_of, Frames, frames_below, frames_for, free_count, free_of, GainsHolders}
use Rattle.vm.proofs.Common.{get_or, HasFramesOf, held, held-inside, holders_of, holds, inl, inr, is_open, IsFreeList}
use Rattle.vm.proofs.Common.{IsMore, IsPart, IsSoFar, IsSpace, length-append, List, map-append, marks_at, not-free-held}
use Rattle.vm.proofs.Common.{OwnsFrames, Page, page_at, page_with, pages_below, pages_in, pages_of, refl, Reframes}
use Rattle.vm.proofs.Common.{registers_of, right_marks, SameOtherPages, shared_marks, shared_memory, shared_page, Space}
use Rattle.vm.proofs.Common.{suc, sym, tables_below, Trades, Trades-lengths, Trades-none, Trades-twice, zero, ℕ, ◌++◌}
use Rattle.vm.proofs.Common.{◌+◌, ◌-◌, ◌<◌, ◌∙◌, ◌∷◌, ◌≡◌, ◌≢◌, ◌≤◌}
use Rattle.vm.proofs.Added.{IsBefore, next-held, next-pages, next-trades, next-trap, share-stands}
use Rattle.vm.proofs.BesideLemmas.{Trades-held, Trades-with, IsNext}
use Rattle.vm.proofs.HeldLemmas.{count-held, frames_for-more, length-held, page-held}
use Rattle.vm.proofs.DenseLemmas.{frame_at-is, frame_at-same, missing-next, pages_below-more, pages_below-zero}
use Rattle.vm.proofs.PageLemmas.{get_or-pages}
use Rattle.vm.proofs.StoreLemmas.{pages-same}

-- ---- trades of more than one holder

Trades-more : (m : Ram) (s n : Frames) (f : ℕ) (all : List ℕ)
    → ((v : ℕ) → holders_of m n v ≡ holders_of m s v + count_of v (f ∷ [])) → 0 < count_of f all
    → Trades m m s n all (f ∷ all)
Trades-more m s n f all more there = record {
  count = refl;
  moved = λ v. omega (arith, more v);
  others = λ v h. refl;
  fresh = λ v none some. elim (cases_eq v f) [
    | inl same ↦ absurd (omega (arith, ap (λ x. count_of x all) same))
    | inr other ↦ absurd (omega (arith, count_of-other v f all other))
  ];
}

-- ---- the frame of the page

module _ {m : Ram} {r t n : ℕ} {s : Frames} (is : OwnsFrames m r t n s) where
  -- a frame of a page occurs there once, and is no table and no trap frame
  page-once : (p : ℕ) {f : ℕ} → p < n → frame_at m r p ≡ f
      → (count_of f (tables_below m r n) + count_of f (t ∷ []) ≡ 0) × (count_of f (frames_below m r n) ≡ 1)
      × (count_of f (held m r t n) ≡ 1)
  page-once p {f} low was =
      let at : 0 < count_of f (frames_below m r n) =
      omega (arith, page-held m r n p low, ap (λ x. count_of x (frames_below m r n)) was) in
      (omega (arith, count-held m r t n f), omega (arith, count-held m r t n f), omega (arith, count-held m r t n f))

-- a frame that no page of a list of pages has
frames-absent : (m : Ram) (r n f : ℕ) → ((p : ℕ) → p < n → frame_at m r p ≢ f) → count_of f (frames_below m r n) ≡ 0
unfolding frames_below
frames-absent m r zero f other = refl
frames-absent m r (suc n) f other =
    omega (
      arith,
      count_of-other f (frame_at m r n) (frames_below m r n) (λ e. other n (omega arith) (sym e)),
      frames-absent m r n f (λ p h. other p (omega arith)),
    )

-- ---- the steps: the page is closed, its frame gets a holder, the other tables get the page

-- the page was marked and closed, and the others are as they were
pub record IsClosed (m k : Ram) (x : Space) (n f leaf : ℕ) (s o : Frames) : Type 0 where
  pub stands : Reframes m k x s o
  pub page : page_at k x.root.0 n ≡ page_with (frame_of m f) leaf
  pub pages : SameOtherPages m k x n
  pub held : (v : ℕ) → count_of v (holds k x) ≡ count_of v (holds m x)
  pub frames : HasFramesOf m k x x
  pub frame : frame_at k x.root.0 n ≡ f
  pub marks : marks_at k x.root.0 n ≡ leaf
  pub right : right_marks leaf ≡ shared_marks (right_marks (marks_at m x.root.0 n))
  pub closed : is_open leaf ≡ false

page-of : (m k : Ram) (x : Space) (n : ℕ) → n < pages_in x.size → pages_of k x ≡ pages_of m x
    → page_at k x.root.0 n ≡ page_at m x.root.0 n
page-of m k x n low same =
    let d = page_at m x.root.0 n in
    sym (get_or-pages k x.root.0 (pages_in x.size) n d low) ∙ ap (λ (l : List Page). get_or l n d) same
    ∙ get_or-pages m x.root.0 (pages_in x.size) n d low

module _ {m : Ram} {x c : Space} {n : ℕ} {s : Frames} (is : IsPart m x c n s) (low : n < pages_in x.size) where
  -- the space that is made doesn't hold the frame of the next page yet
  pub part-absent : {f : ℕ} → frame_at m x.root.0 n ≡ f → count_of f (held m c.root.0 c.trap.0 n) ≡ 0
  part-absent {f} was =
      let one = page-once is.parent n low was in
      let pages : count_of f (frames_below m c.root.0 n) ≡ 0 = frames-absent m c.root.0 n f (λ p h e.
      omega (
        arith,
        pages-same m x.root.0 x.trap.0 (pages_in x.size) p n is.parent.once (omega arith) low
            (sym (is.shared p h) ∙ e ∙ sym was),
      )) in
      let room = is.room f in
      let at = held-inside m s f is.parent.free (omega arith) in
      elim (cases_eq (count_of f (tables_below m c.root.0 n) + count_of f (c.trap.0 ∷ [])) 0) [
        | inl none ↦ omega (arith, count-held m c.root.0 c.trap.0 n f)
        | inr some ↦ absurd (omega (
          arith,
          count-held m c.root.0 c.trap.0 n f,
          is.child.own f (omega arith),
          not-free-held is.parent.free f at.0 at.1,
        ))
      ]

  -- and where its frame gets a holder: the new space can take it
  pub part-before : {f leaf : ℕ} {q : Frames} → frame_at m x.root.0 n ≡ f → marks_at m x.root.0 n ≡ leaf
      → is_open leaf ≡ false → IsFreeList m q → ((v : ℕ) → holders_of m q v ≡ holders_of m s v + count_of v (f ∷ []))
      → free_of m q ≡ free_of m s
      → IsSpace m x q × IsBefore m c.root.0 c.trap.0 n f leaf q
  part-before {f} was marks closed after more list =
      let absent = part-absent was in
      let small = is.parent.dense.small in (
        share-stands is.parent f after more list (page-once is.parent n low was).0
            (λ p h e. let same : p ≡ n = pages-same m x.root.0 x.trap.0 (pages_in x.size) p n is.parent.once h low
            (e ∙ sym was) in ap is_open (ap (marks_at m x.root.0) same ∙ marks) ∙ closed),
        record {
          space = share-stands is.child f after more list
              (omega (arith, count-held m c.root.0 c.trap.0 n f))
              (λ p h e. absurd (omega (
                arith,
                count-held m c.root.0 c.trap.0 n f,
                page-held m c.root.0 n p h,
                ap (λ v. count_of v (frames_below m c.root.0 n)) e,
              )));
          small = omega arith;
          room = λ v. omega (arith, more v);
          absent = absent;
          sole = λ wide. absurd (cc (wide, closed));
        },
      )

  pub part-holder : {f : ℕ} → frame_at m x.root.0 n ≡ f → 0 < holders_of m s f
  part-holder {f} was = omega (arith, (page-once is.parent n low was).2)

  pub more-some : frames_for (n + 1) ≤ frames_for n + free_count m s → 0 < free_count m s
  more-some room =
      let more : frames_for (n + 1) ≡ frames_for (suc n) = ap frames_for (add-one n) in
      omega (arith, missing-next is.child.dense (omega arith))

module _ {m k : Ram} {x : Space} {n f leaf : ℕ} {s o : Frames} (e : IsClosed m k x n f leaf s o) where
  -- no frame is free then that wasn't
  pub closed-free : IsSpace m x s → free_count k o ≡ free_count m s
  closed-free is =
      omega (arith, Trades-lengths e.stands.trades is.free e.stands.space.free is.held, length-held)

  -- a page with its old bytes and the marks of the leaf is one that a fork leaves
  closed-page : {bs : List ℕ} → bs ≡ frame_of m (frame_at m x.root.0 n)
      → page_with bs leaf ≡ shared_page (page_at m x.root.0 n)
  closed-page same = rw (e.right, same) refl

module _ {m k : Ram} {x c : Space} {n f leaf : ℕ} {s o : Frames} (is : IsPart m x c n s) (low : n < pages_in x.size)
    (e : IsClosed m k x n f leaf s o) where
  -- the part stays intact where the page is closed
  pub part-closed : IsPart k x c n o
      × ((v : ℕ) → count_of v (held k c.root.0 c.trap.0 n) ≡ count_of v (held m c.root.0 c.trap.0 n))
      × (pages_below k c.root.0 n ≡ pages_below m c.root.0 n) × (frame_of k c.trap.0 ≡ frame_of m c.trap.0)
  part-closed =
      let beside = Trades-held e.stands.trades is.child is.room e.stands.space.free in
      let stays = beside.stays in (
        record {
          parent = e.stands.space;
          child = beside.space;
          room = λ v. omega (arith, ap (count_of v) beside.same);
          shared = λ p h. frame_at-same m k c.root.0 p (stays.put.looks p) ∙ is.shared p h
              ∙ sym (e.frames p (omega arith));
        },
        λ v. ap (count_of v) beside.same,
        stays.pages,
        stays.trap,
      )

  pub part-more : {l : Ram} {q w : Frames} → frame_at m x.root.0 n ≡ f → IsFreeList k q
      → ((v : ℕ) → holders_of k q v ≡ holders_of k o v + count_of v (f ∷ [])) → free_of k q ≡ free_of k o
      → IsNext k l c.root.0 n f leaf q w
      → IsMore m l x c n s w
  part-more {l} {q} {w} was after more list next =
      let r = c.root.0 in
      let t = c.trap.0 in
      let part = part-closed in
      let before = part-before part.0 low e.frame e.marks e.closed after more list in
      let b = before.1 in
      let trades = next-trades b next in
      let room : (v : ℕ) → count_of v (f ∷ held k r t n) + count_of v (holds k x) ≤ holders_of k q v =
      λ v. omega (arith, more v) in
      let parent = Trades-held trades before.0 room next.paged.free in
      let stays = parent.stays in
      let child = next-held b next in
      let here = page-once part.0.parent n low e.frame in
      let first : Trades m k s q (holds m x ++ held m r t n) (f ∷ (held k r t n ++ holds k x)) =
      Trades-with (Trades-twice e.stands.trades (Trades-more k o q f (holds k x) more (omega arith))) (held m r t n)
      (holds m x ++ held m r t n) (f ∷ (held k r t n ++ holds k x))
      (λ v. omega (arith, count_of-append v (holds m x) (held m r t n)))
      (λ v. omega (arith, count_of-append v (held k r t n) (holds k x))) in
      let second : Trades k l q w (f ∷ (held k r t n ++ holds k x)) (holds l x ++ held l r t (suc n)) =
      Trades-with trades (holds k x) (f ∷ (held k r t n ++ holds k x)) (holds l x ++ held l r t (suc n))
      (λ v. omega (arith, count_of-append v (held k r t n) (holds k x)))
      (λ v. omega (arith, count_of-append v (holds l x) (held l r t (suc n)), ap (count_of v) parent.same)) in
      let all = Trades-twice first second in
      let lengths = Trades-lengths all is.parent.free child.free
      (λ v. omega (arith, count_of-append v (holds m x) (held m r t n))) in
      record {
        part = record {
          parent = parent.space;
          child = child;
          room = λ v. omega (
            arith,
            count_of-append v (holds m x) (held m r t n),
            count_of-append v (holds l x) (held l r t (suc n)),
          );
          shared = λ p h. elim (cases_eq p n) [
            | inl same ↦ ap (frame_at l r) same ∙ frame_at-is l r n next.inserts.changed
                ∙ sym (ap (frame_at l x.root.0) same ∙ frame_at-same k l x.root.0 n (stays.put.looks n) ∙ e.frame)
            | inr ne ↦
                frame_at-same k l r p (next.inserts.others p (omega arith) ne) ∙ part.0.shared p (omega arith)
                ∙ sym (frame_at-same k l x.root.0 p (stays.put.looks p))
          ];
        };
        marked = page-of k l x n low stays.pages ∙ e.page ∙ closed-page e (ap (frame_of m) (sym was));
        pages = λ p h ne. page-of k l x p h stays.pages ∙ e.pages p h ne;
        registers = stays.trap ∙ e.stands.registers;
        frames = λ p h. frame_at-same k l x.root.0 p (stays.put.looks p) ∙ e.frames p h;
        child = next-pages b next
            ∙ ap (λ (y : Page). pages_below k r n ++ (y ∷ []))
            (closed-page e (ap (frame_of k) (sym e.frame) ∙ ap (λ (y : Page). y.bytes) e.page
            ∙ ap (frame_of m) (sym was)))
            ∙ ap (λ (l : List Page). l ++ (shared_page (page_at m x.root.0 n) ∷ [])) part.2;
        trap = next-trap b next ∙ part.3;
        trades = all;
        free = omega (
          arith,
          length-append (holds m x) (held m r t n),
          length-append (holds l x) (held l r t (suc n)),
          length-held m x.root.0 x.trap.0 (pages_in x.size),
          length-held l x.root.0 x.trap.0 (pages_in x.size),
          length-held m r t n,
          length-held l r t (suc n),
        );
      }

-- ---- what the steps require

-- ---- all pages

pages-marked : (m k : Ram) (r n : ℕ) → ((p : ℕ) → p < n → page_at k r p ≡ shared_page (page_at m r p))
    → pages_below k r n ≡ shared_memory (pages_below m r n)
pages-marked m k r zero each = pages_below-zero k r ∙ sym (ap shared_memory (pages_below-zero m r))
pages-marked m k r (suc n) each =
    rw (
      pages_below-more k r n,
      pages_below-more m r n,
      each n (omega arith),
      pages-marked m k r n (λ p h. each p (omega arith)),
    )
    (sym (map-append shared_page (pages_below m r n) (page_at m r n ∷ [])))

pub so-far-start : {m : Ram} {x c : Space} {s : Frames} → IsPart m x c 0 s → IsSoFar m m x c 0 s s
so-far-start {m} {x} {c} {s} is = record {
  part = is;
  marked = λ p h. absurd (omega arith);
  pages = λ p high low. refl;
  registers = refl;
  frames = λ p h. refl;
  child = pages_below-zero m c.root.0 ∙ sym (ap shared_memory (pages_below-zero m x.root.0));
  trap = refl;
  trades = Trades-none m s (holds m x ++ held m c.root.0 c.trap.0 0);
  free = refl;
}

module _ {m k l : Ram} {x c : Space} {n : ℕ} {s q w : Frames} (so : IsSoFar m k x c n s q)
    (more : IsMore k l x c n q w) where
  pub so-far-more : n < pages_in x.size → IsSoFar m l x c (n + 1) s w
  so-far-more low =
      rw add-one record {
        part = more.part;
        marked = λ p h. elim (cases_eq p n) [
          | inl same ↦ ap (page_at l x.root.0) same ∙ more.marked ∙ ap shared_page (so.pages n (omega arith) low)
              ∙ ap (λ (j : ℕ). shared_page (page_at m x.root.0 j)) (sym same)
          | inr ne ↦ more.pages p (omega arith) ne ∙ so.marked p (omega arith)
        ];
        pages = λ p high h. more.pages p h (omega arith) ∙ so.pages p (omega arith) h;
        registers = more.registers ∙ so.registers;
        frames = λ p h. more.frames p h ∙ so.frames p h;
        child = more.child
            ∙ ap (λ (y : Page). pages_below k c.root.0 n ++ (shared_page y ∷ [])) (so.pages n (omega arith) low)
            ∙ ap (λ (l : List Page). l ++ (shared_page (page_at m x.root.0 n) ∷ [])) so.child
            ∙ sym (ap shared_memory (pages_below-more m x.root.0 n)
            ∙ map-append shared_page (pages_below m x.root.0 n) (page_at m x.root.0 n ∷ []));
        trap = more.trap ∙ so.trap;
        trades = Trades-twice so.trades more.trades;
        free = omega arith;
      }

-- a space with more pages needs no fewer frames than one with fewer
pub frames_for-grows : (n d : ℕ) → frames_for n + d ≤ frames_for (d + n)
frames_for-grows n zero = let e : 0 + n ≡ n = omega arith in rw e (omega arith)
frames_for-grows n (suc d) = let e : suc d + n ≡ suc (d + n) =
    omega arith in rw e (omega (arith, frames_for-grows n d, frames_for-more (d + n)))

module _ {m k : Ram} {x c : Space} {n : ℕ} {s w : Frames} (so : IsSoFar m k x c n s w) where
  pub room-for : n < pages_in x.size → frames_for (pages_in x.size) ≤ frames_for 0 + free_count m s
      → frames_for (n + 1) ≤ frames_for n + free_count k w
  room-for low room =
      let d = pages_in x.size - (n + 1) in
      let e : d + (n + 1) ≡ pages_in x.size = omega arith in
      omega (arith, frames_for-grows (n + 1) d, ap frames_for e)

module _ {m k : Ram} {x c : Space} {s w : Frames} (is : IsPart m x c 0 s) (so : IsSoFar m k x c (pages_in x.size) s w)
  where
    -- the frames of the pages are the same, and have one holder more
    pub shared-frames : (p : ℕ) → p < pages_in x.size
        → (frame_at k c.root.0 p ≡ frame_at m x.root.0 p)
        × (holders_of k w (frame_at m x.root.0 p) ≡ holders_of m s (frame_at m x.root.0 p) + 1)
    unfolding frames_below
    shared-frames p low =
        let same = so.frames p low in
        let n = pages_in x.size in
        let f = frame_at m x.root.0 p in
        let before = page-once is.parent p low refl in
        let now = page-once so.part.parent p low same in
        let in_child = page-once so.part.child p low (so.part.shared p low ∙ same) in
        let none : count_of f (held m c.root.0 c.trap.0 0) ≡ 0 =
        elim (cases_eq (count_of f (held m c.root.0 c.trap.0 0)) 0) [
          | inl gone ↦ gone
          | inr some ↦
              let at = held-inside m s f is.parent.free (omega arith) in
              absurd (omega (
                arith,
                is.child.own f (omega (arith, count-held m c.root.0 c.trap.0 0 f)),
                not-free-held is.parent.free f at.0 at.1,
              ))
        ] in (
          so.part.shared p low ∙ same,
          omega (
            arith,
            count_of-append f (holds m x) (held m c.root.0 c.trap.0 0),
            count_of-append f (holds k x) (held k c.root.0 c.trap.0 n),
          ),
        )

-- ---- a space that is made, and all pages

-- the space is forked: k has the new space, and then its pages
pub record IsForked (m l : Ram) (x c : Space) (s w : Frames) : Type 0 where
  pub child : OwnsFrames l c.root.0 c.trap.0 (pages_in x.size) w
  pub parent : IsSpace l x w
  pub pages : pages_below l c.root.0 (pages_in x.size) ≡ shared_memory (pages_of m x)
  pub kept : pages_of l x ≡ shared_memory (pages_of m x)
  pub registers : registers_of l x ≡ registers_of m x
  pub shared : HasFramesOf m l x c
  pub holders : GainsHolders m l x s w
  pub trades : Trades m l s w (holds m x) (holds l x ++ held l c.root.0 c.trap.0 (pages_in x.size))

module _ {m k : Ram} (x c : Space) {s q : Frames} (is : IsSpace m x s) (new : OwnsFrames k c.root.0 c.trap.0 0 q)
    (t : Trades m k s q [] (held k c.root.0 c.trap.0 0)) where
  -- an empty space beside the one that it will share with
  pub part-start : IsPart k x c 0 q
  part-start =
      let beside = Trades-held t is (λ v. omega arith) new.free in
      record {
        parent = beside.space;
        child = new;
        room = λ v. omega (arith, ap (count_of v) beside.same);
        shared = λ p h. absurd (omega arith);
      }

  -- the pages fit, where the count of the whole space does
  pub part-room : frames_for (pages_in x.size) ≤ free_count m s
      → frames_for (pages_in x.size) ≤ frames_for 0 + free_count k q
  part-room room = omega (arith, length-held, Trades-lengths t is.free new.free (λ v. omega arith))

  -- a frame of a page gets no holder by a new space
  holders-stay : (p : ℕ) → p < pages_in x.size
      → holders_of k q (frame_at m x.root.0 p) ≡ holders_of m s (frame_at m x.root.0 p)
  holders-stay p low =
      let f = frame_at m x.root.0 p in
      elim (cases_eq (count_of f (held k c.root.0 c.trap.0 0)) 0) [
        | inl none ↦ omega arith
        | inr some ↦ absurd (omega (arith, t.fresh f refl (omega arith), (page-once is p low refl).2))
      ]

  pub forked : (l : Ram) (w : Frames) → IsSoFar k l x c (pages_in x.size) q w → IsForked m l x c s w
  forked l w so =
      let beside = Trades-held t is (λ v. omega arith) new.free in
      let part = part-start in
      let same : (p : ℕ) → frame_at k x.root.0 p ≡ frame_at m x.root.0 p =
      λ p. frame_at-same m k x.root.0 p (beside.stays.put.looks p) in
      let first : Trades m k s q (holds m x) (holds k x ++ held k c.root.0 c.trap.0 0) =
      Trades-with t (holds m x) (holds m x) (holds k x ++ held k c.root.0 c.trap.0 0)
      (λ v. omega arith) (λ v. omega
      (arith, count_of-append v (holds k x) (held k c.root.0 c.trap.0 0), ap (count_of v) beside.same)) in
      let both : (p : ℕ) → p < pages_in x.size
      → (frame_at l c.root.0 p ≡ frame_at k x.root.0 p)
      × (holders_of l w (frame_at k x.root.0 p) ≡ holders_of k q (frame_at k x.root.0 p) + 1) =
      λ p h. shared-frames part so p h in
      record {
        child = so.part.child;
        parent = so.part.parent;
        pages = so.child ∙ ap shared_memory beside.stays.pages;
        kept = pages-marked k l x.root.0 (pages_in x.size) so.marked ∙ ap shared_memory beside.stays.pages;
        registers = so.registers ∙ beside.stays.trap;
        shared = λ p h. (both p h).0 ∙ same p;
        holders = λ p h. ap (holders_of l w) (sym (same p)) ∙ (both p h).1 ∙ ap (λ f. holders_of k q f + 1) (same p)
            ∙ ap (λ n. n + 1) (holders-stay p h);
        trades = Trades-twice first so.trades;
      }
