-- A page gets another frame with the same bytes, or other marks.
use Rattle.vm.proofs.Common.{Ram, [], among, among_first, among_first_not, ap, arith, Bool, cases_eq, count_of}
use Rattle.vm.proofs.Common.{count_of-first, count_of-other, extra_of, false, frame_at, frame_of, Frames, frames_below}
use Rattle.vm.proofs.Common.{free-first, free-holders, free_of, further-free, further_at, get_or-set_other}
use Rattle.vm.proofs.Common.{get_or-set_same, HasRights, HasTable, held, held-inside, holders-free, holders-table}
use Rattle.vm.proofs.Common.{holders_of, inl, inr, is_open, IsFreeList, IsLeafMarks, IsPaged, IsRearranged, IsSpace}
use Rattle.vm.proofs.Common.{IsTidy, IsUserLeaf, Keeps, length, length-set, lookup-sound, lookup_of, lookup_of-same}
use Rattle.vm.proofs.Common.{low_is_node, low_node, ltb, Maps, marks_at, mid_is_node, mid_node, nat_eq, None}
use Rattle.vm.proofs.Common.{not-free-held, one_if, one_if-le, OwnsFrames, Page, page_at, page_with, pages_below}
use Rattle.vm.proofs.Common.{pages_in, Perm, refl, Reframes, right_marks, SameMap, SameTables, slice_set, Some, Space}
use Rattle.vm.proofs.Common.{subst, suc, sym, table_at-same, tables_below, Trades, Trades-twice, true, unwrap_or}
use Rattle.vm.proofs.Common.{user_leaf, zero, ℕ, ◌+◌, ◌<◌, ◌^◌, ◌∙◌, ◌∷◌, ◌≡◌, ◌≢◌, ◌≤◌, ◌⊎◌}
use Rattle.vm.proofs.DenseLemmas.{alone-set, dense-set, frame_at-is, frame_at-same, frames_below-same, IsTidy-same}
use Rattle.vm.proofs.DenseLemmas.{marks_at-is, tables_below-same}
use Rattle.vm.proofs.BesideLemmas.{beyond-held, list-after, page-kept, paged-same, pages-each}
use Rattle.vm.proofs.HeldLemmas.{count-held, page-held, table-held}
use Rattle.vm.proofs.PageLemmas.{leaf-user, leaf-valid, right-leaf}

-- Page p, whose frame was f, has frame g and these marks now. Frame g is f, or was free and has f's bytes.
pub record IsRemap (m z k : Ram) (r p f g marks : ℕ) (s q w : Frames) : Type 0 where
  pub was : frame_at m r p ≡ f
  pub count : length z ≡ length m
  pub rest : (v : ℕ) → 0 < holders_of m s v → frame_of z v ≡ frame_of m v
  pub bytes : frame_of z g ≡ frame_of m f
  pub new : (g ≡ f) ⊎ (holders_of m s g ≡ 0)
  pub apart : (v : ℕ) → 0 < holders_of m s v → among v (free_of z q) ≡ false
  pub taken : among g (free_of z q) ≡ false
  pub moved : (v : ℕ) → holders_of k w v + count_of v (f ∷ []) ≡ holders_of m s v + count_of v (g ∷ [])
  pub fewer : (v : ℕ) → further_at w v ≤ further_at s v
  pub leaf : IsUserLeaf marks
  pub sole : is_open marks ≡ true → further_at w g ≡ 0
  pub inserts : Maps z k r p g marks
  pub tables : SameTables z k r
  pub tidy : IsTidy k r
  pub paged : IsPaged k r w
  pub keeps : Keeps z k r q w

held-some : {m : Ram} {r t n : ℕ} {s : Frames} → OwnsFrames m r t n s → (v : ℕ) → 0 < count_of v (held m r t n)
    → 0 < holders_of m s v
held-some is v some = omega arith

-- the frames of the pages: one for another
count-frames : (m k : Ram) (r n p f g : ℕ) → ((j : ℕ) → j < n → j ≢ p → lookup_of k r j ≡ lookup_of m r j)
    → frame_at k r p ≡ g → frame_at m r p ≡ f → p < n
    → (v : ℕ) → count_of v (frames_below k r n) + count_of v (f ∷ [])
    ≡ count_of v (frames_below m r n) + count_of v (g ∷ [])
unfolding frames_below
count-frames m k r zero p f g looks new old low v = absurd (omega arith)
count-frames m k r (suc n) p f g looks new old low v = elim (cases_eq n p) [
  | inl here ↦
      let rest : frames_below k r n ≡ frames_below m r n =
      frames_below-same m k r n (λ j h. looks j (omega arith) (omega arith)) in
      omega (
        arith,
        ap (count_of v) rest,
        ap (λ x. one_if (nat_eq v x)) (ap (frame_at k r) here ∙ new),
        ap (λ x. one_if (nat_eq v x)) (ap (frame_at m r) here ∙ old),
      )
  | inr ne ↦
      let rest = count-frames m k r n p f g (λ j h other. looks j (omega arith) other) new old (omega arith) v in
      omega (arith, ap (λ x. one_if (nat_eq v x)) (frame_at-same m k r n (looks n (omega arith) ne)))
]

page-is-held : (m : Ram) (r t n p f : ℕ) → p < n → frame_at m r p ≡ f → 0 < count_of f (held m r t n)
page-is-held m r t n p f low was =
    omega (arith, count-held, page-held m r n p low, ap (λ x. count_of x (frames_below m r n)) was)

module _ {m z k : Ram} {r t n p f g marks : ℕ} {s q w : Frames} (is : OwnsFrames m r t n s) (low : p < n)
    (e : IsRemap m z k r p f g marks s q w) where
  table-stays : (v : ℕ) → HasTable m r v → frame_of z v ≡ frame_of m v
  table-stays v h = e.rest v (held-some is v (omega (arith, count-held, table-held is.dense h)))

  table-was : (v : ℕ) → HasTable z r v → 0 < count_of v (tables_below m r n)
  table-was v h = table-held is.dense
      (record {
        place = h.place;
        is_node = h.is_node;
        at_place = sym (table_at-same m z r table-stays h.place h.is_node) ∙ h.at_place;
      })

  -- what is mapped at other pages
  remap-others : (j : ℕ) → j < 2 ^ 27 → j ≢ p → lookup_of k r j ≡ lookup_of m r j
  remap-others j small ne = e.inserts.others j small ne ∙ lookup_of-same m z r table-stays j

  remap-looks : (j : ℕ) → j < n → j ≢ p → lookup_of k r j ≡ lookup_of m r j
  remap-looks j h ne = remap-others j (omega arith) ne

  tables-same : tables_below k r n ≡ tables_below m r n
  tables-same =
      let same : SameTables m k r = λ x nx. e.tables x nx ∙ table_at-same m z r table-stays x nx in
      tables_below-same m k r n
      (λ j h. (
        ap (λ o. unwrap_or o 0) (same (mid_node j) (mid_is_node j)),
        ap (λ o. unwrap_or o 0) (same (low_node j) (low_is_node j)),
      ))

  -- what is held: one frame for another
  remap-held : (v : ℕ) → count_of v (held k r t n) + count_of v (f ∷ [])
      ≡ count_of v (held m r t n) + count_of v (g ∷ [])
  remap-held v =
      omega (
        arith,
        count-held,
        count-frames m k r n p f g remap-looks (frame_at-is k r p e.inserts.changed) e.was low v,
        ap (count_of v) tables-same,
      )

  -- the space is intact
  remap-space : OwnsFrames k r t n w
  remap-space =
      let here = page-is-held m r t n p f low e.was in
      record {
        dense = dense-set is.dense k n p g marks e.paged.tree e.tidy low is.dense.small e.inserts.changed e.leaf
            remap-others (omega arith) (λ j h ne. h);
        once = λ v. elim (cases_eq v g) [
          | inl same ↦ elim e.new [
            | inl old ↦ omega (arith, remap-held v, count_of-first v f [] (same ∙ old), count_of-first v g [] same)
            | inr free ↦ omega (arith, remap-held v, ap (holders_of m s) same, count_of-first v g [] same)
          ]
          | inr other ↦ omega (arith, remap-held v, count_of-other v g [] other)
        ];
        free = e.paged.free;
        held = λ v. omega (arith, remap-held v);
        own = λ v some. omega (arith, is.own v (omega (arith, ap (count_of v) tables-same)));
        alone = alone-set m k r n n p g marks s w e.fewer e.inserts.changed (λ j h ne. (h, remap-looks j h ne)) e.sole
            is.alone;
      }

  -- a frame that has a holder and is no table of the space keeps its bytes
  remap-bytes : (v : ℕ) → 0 < holders_of m s v → count_of v (tables_below m r n) ≡ 0 → frame_of k v ≡ frame_of m v
  remap-bytes v some none = e.keeps.others v (λ h. omega (arith, table-was v h)) (e.apart v some) ∙ e.rest v some

  -- it trades one frame for another
  remap-trades : Trades m k s w (held m r t n) (held k r t n)
  remap-trades = record {
    count = e.keeps.count ∙ e.count;
    moved = λ v. omega (arith, remap-held v);
    others = λ v more. let none = (beyond-held is v more).0 in remap-bytes v (omega arith) (omega arith);
    fresh = λ v none some. elim e.new [
      | inl old ↦ absurd (omega (arith, remap-held v, ap (λ x. count_of v (x ∷ [])) old))
      | inr free ↦ elim (cases_eq v g) [
        | inl same ↦ ap (holders_of m s) same ∙ free
        | inr other ↦ absurd (omega (arith, remap-held v, count_of-other v g [] other))
      ]
    ];
  }

  -- the page has its old bytes, and these marks
  pub remap-page : page_at k r p ≡ page_with (frame_of m f) marks
  remap-page =
      let no_table : count_of g (tables_below m r n) ≡ 0 = elim e.new [
        | inl old ↦ omega (
          arith,
          ap (λ x. count_of x (tables_below m r n)) old,
          count-held m r t n f,
          page-held m r n p low,
          ap (λ x. count_of x (frames_below m r n)) e.was,
        )
        | inr free ↦ omega (arith, count-held m r t n g)
      ] in
      let bytes : frame_of k g ≡ frame_of m f = e.keeps.others g (λ h. omega (arith, table-was g h)) e.taken
      ∙ e.bytes in
      ap (λ x. page_with (frame_of k x) (marks_at k r p)) (frame_at-is k r p e.inserts.changed)
      ∙ ap (page_with (frame_of k g)) (marks_at-is k r p e.inserts.changed) ∙ ap (λ b. page_with b marks) bytes

  -- and the others are as they were
  pub remap-other : (j : ℕ) → j < n → j ≢ p → page_at k r j ≡ page_at m r j
  remap-other j h ne =
      let v = frame_at m r j in
      let some = page-held m r n j h in
      page-kept m k r j (remap-looks j h ne)
      (remap-bytes v (held-some is v (omega (arith, count-held m r t n v))) (omega (arith, count-held m r t n v)))

  -- the program's memory is the same, where the rights are
  remap-pages : right_marks marks ≡ right_marks (marks_at m r p) → pages_below k r n ≡ pages_below m r n
  remap-pages right =
      pages-each m k r n (λ j h. elim (cases_eq j p) [
        | inl same ↦ rw same (remap-page
            ∙ sym (ap (λ x. let d : Page = record { bytes = frame_of m (frame_at m r p); marks = x } in d) (sym right)
            ∙ ap (λ v. page_with (frame_of m v) marks) e.was))
        | inr ne ↦ remap-other j h ne
      ])

  -- and so are the registers
  remap-trap : frame_of k t ≡ frame_of m t
  remap-trap =
      let one = count_of-first t t [] refl in
      remap-bytes t (held-some is t (omega (arith, count-held m r t n t))) (omega (arith, count-held m r t n t))

-- where the page keeps its frame, all pages do, and what is held stays
module _ {m z k : Ram} {r t n p f marks : ℕ} {s q w : Frames} (is : OwnsFrames m r t n s) (low : p < n)
    (e : IsRemap m z k r p f f marks s q w) where
  pub remap-frames : (j : ℕ) → j < n → frame_at k r j ≡ frame_at m r j
  remap-frames j h = elim (cases_eq j p) [
    | inl at ↦ ap (frame_at k r) at ∙ frame_at-is k r p e.inserts.changed ∙ sym e.was ∙ ap (frame_at m r) (sym at)
    | inr ne ↦ frame_at-same m k r j (remap-looks is low e j h ne)
  ]

  pub remap-kept : (v : ℕ) → count_of v (held k r t n) ≡ count_of v (held m r t n)
  remap-kept v = omega (arith, remap-held is low e v)

-- ---- the whole space

module _ {m z k : Ram} {p f g marks : ℕ} {s q w : Frames} (x : Space) (is : IsSpace m x s) (low : p < pages_in x.size)
    (e : IsRemap m z k x.root.0 p f g marks s q w) where
  pub reframed : Reframes m k x s w
  reframed = record { space = remap-space is low e; registers = remap-trap is low e; trades = remap-trades is low e }

  pub rearranged : HasRights m x p marks → IsRearranged m k x s w
  rearranged right = record { frames = reframed; pages = remap-pages is low e right }

-- ---- frames that change, one after another

pub reframes-twice : {m k l : Ram} {x : Space} {s q w : Frames} → Reframes m k x s q → Reframes k l x q w
    → Reframes m l x s w
reframes-twice a b = record
    { space = b.space; registers = b.registers ∙ a.registers; trades = Trades-twice a.trades b.trades }

-- ---- other marks for the same frame

pub remap-marks : {m k : Ram} {r t n p f marks : ℕ} {s w : Frames} → OwnsFrames m r t n s → p < n → frame_at m r p ≡ f
    → IsUserLeaf marks → (is_open marks ≡ true → further_at s f ≡ 0) → w ≡ s
    → Maps m k r p f marks → SameTables m k r → IsTidy k r → IsPaged k r w → Keeps m k r s w
    → free_of k w ≡ free_of m s → IsRemap m m k r p f f marks s s w
remap-marks {m} {k} {r} {t} {n} {p} {f} {s = s} is low was leaf sole kept inserts tables tidy paged keeps free =
    record {
      was = was;
      count = refl;
      rest = λ v some. refl;
      bytes = refl;
      new = inl refl;
      apart = λ v some. (held-inside m s v is.free some).1;
      taken = (held-inside m s f is.free (held-some is f (page-is-held m r t n p f low was))).1;
      moved = λ v. omega (
        arith,
        holders-table is.free paged.free keeps.count (ap extra_of kept) v,
        ap (count_of v) free,
      );
      fewer = λ v. rw kept (omega arith);
      leaf = leaf;
      sole = λ wide. rw kept (sole wide);
      inserts = inserts;
      tables = tables;
      tidy = tidy;
      paged = paged;
      keeps = keeps;
    }

-- ---- a frame of its own

-- a frame replaced one that has other holders, and got its bytes
pub record IsSplit (m z : Ram) (s q : Frames) (f g : ℕ) : Type 0 where
  pub taken : free_of m s ≡ g ∷ free_of m q
  pub after : IsFreeList m q
  pub holders : (v : ℕ) → holders_of m q v + count_of v (f ∷ []) ≡ holders_of m s v + count_of v (g ∷ [])
  pub is : z ≡ slice_set m g (frame_of m f)

module _ {m z : Ram} {s q : Frames} {f g : ℕ} (is : IsFreeList m s) (e : IsSplit m z s q f g) where
  split-first : among g (free_of m s) ≡ true
  split-first = ap (among g) e.taken ∙ among_first g (free_of m q)

  split-fewer : (v : ℕ) → further_at q v ≤ further_at s v
  split-fewer v = omega (arith, holders-free is v, holders-free e.after v, ap (count_of v) e.taken)

  split-others : (v : ℕ) → v ≢ g → frame_of z v ≡ frame_of m v
  split-others v ne = ap (λ x. frame_of x v) e.is ∙ get_or-set_other m g v (frame_of m f) [] ne

  split-rest : (v : ℕ) → 0 < holders_of m s v → frame_of z v ≡ frame_of m v
  split-rest v some = split-others v (λ same. omega (arith, ap (holders_of m s) same, free-holders is g split-first))

  pub split-count : length z ≡ length m
  split-count = ap length e.is ∙ length-set m g (frame_of m f)

  split-free : (free_of z q ≡ free_of m q) × IsFreeList z q
  split-free = list-after m z s q g is e.taken e.after split-count split-others

  split-apart : (v : ℕ) → 0 < holders_of m s v → among v (free_of z q) ≡ false
  split-apart v some = ap (among v) split-free.0
      ∙ (among_first_not v g (free_of m q) (sym (ap (among v) e.taken) ∙ (held-inside m s v is some).1)).1

  -- the new frame has one holder
  pub split-sole : further_at q g ≡ 0
  split-sole = omega (arith, split-fewer g, further-free is g split-first)

module _ {m z : Ram} {r t n : ℕ} {s q : Frames} {f g : ℕ} (is : OwnsFrames m r t n s) (e : IsSplit m z s q f g) where
  -- the tables may be written then
  pub split-paged : IsPaged z r q × IsTidy z r × SameMap m z r
  split-paged =
      let some : (v : ℕ) → HasTable m r v → 0 < count_of v (tables_below m r n) = λ v h. table-held is.dense h in
      let same : (v : ℕ) → HasTable m r v
      → frame_of z v ≡ frame_of m v =
      λ v h. split-rest is.free e v (held-some is v (omega (arith, some v h, count-held))) in (
        paged-same is.dense.tree (split-count is.free e) same (split-free is.free e).1
            (λ v h. (
              split-apart is.free e v (held-some is v (omega (arith, some v h, count-held))),
              omega (arith, split-fewer is.free e v, is.own v (omega (arith, some v h))),
            )),
        IsTidy-same m z r is.dense.tidy same,
        λ p. lookup_of-same m z r same p,
      )

  pub split-mapped : (p : ℕ) → p < n → lookup_of z r p ≢ None
  split-mapped p low none = cc (split-paged.2 p, none, is.dense.pages p low)

  pub remap-split : {k : Ram} {p marks : ℕ} {w : Frames} → p < n → frame_at m r p ≡ f → IsUserLeaf marks → w ≡ q
      → Maps z k r p g marks → SameTables z k r → IsTidy k r → IsPaged k r w → Keeps z k r q w
      → free_of k w ≡ free_of z q
      → IsRemap m z k r p f g marks s q w
  remap-split {k} low was leaf kept inserts tables tidy paged keeps free =
      let first = free-first is.free g (free_of m q) e.taken in
      record {
        was = was;
        count = split-count is.free e;
        rest = split-rest is.free e;
        bytes = ap (λ x. frame_of x g) e.is ∙ get_or-set_same m g (frame_of m f) [] first.0;
        new = inr (free-holders is.free g (split-first is.free e));
        apart = split-apart is.free e;
        taken = ap (among g) (split-free is.free e).0 ∙ first.1;
        moved = λ v. omega (
          arith,
          holders-table e.after paged.free (keeps.count ∙ split-count is.free e) (ap extra_of kept) v,
          ap (count_of v) (free ∙ (split-free is.free e).0),
        );
        fewer = λ v. rw kept (split-fewer is.free e v);
        leaf = leaf;
        sole = λ wide. rw kept (split-sole is.free e);
        inserts = inserts;
        tables = tables;
        tidy = tidy;
        paged = paged;
        keeps = keeps;
      }

-- ---- what a caller knows

module _ {m : Ram} {r t n : ℕ} {s : Frames} (is : OwnsFrames m r t n s) (p : ℕ) (f : ℕ) (low : p < n)
    (was : frame_at m r p ≡ f) where
  pub page-inside-is : f < length m
  page-inside-is = omega (arith, (lookup-sound is.dense.tree p (is.dense.pages p low)).0)

  pub page-single : holders_of m s f ≤ 1 → further_at s f ≡ 0
  page-single few =
      let at = held-inside m s f is.free (held-some is f (page-is-held m r t n p f low was)) in
      omega (arith, not-free-held is.free f at.0 at.1)

-- and with more than one it has further ones
pub page-shared : (m : Ram) (s : Frames) (f : ℕ) → IsFreeList m s → 1 < holders_of m s f → further_at s f ≢ 0
page-shared m s f is many none = omega (arith, holders-free is f, one_if-le (ltb f (length m)))

-- a leaf that is made of the one that was found, with changed rights
pub record IsMadeLeaf (m : Ram) (r p f a : ℕ) (change : Perm → Perm) (wide : Bool) : Type 0 where
  pub frame : frame_at m r p ≡ f
  pub leaf : IsUserLeaf a
  pub marks : IsLeafMarks a
  pub right : right_marks a ≡ change (right_marks (marks_at m r p))
  pub made : a ≡ user_leaf (change (right_marks (marks_at m r p))) wide

pub made-leaf : (m : Ram) (r p f a b : ℕ) (change : Perm → Perm) (wide : Bool) → Some (f, a) ≡ lookup_of m r p
    → b ≡ user_leaf (change (right_marks a)) wide → IsMadeLeaf m r p f b change wide
made-leaf m r p f a b change wide found is =
    let rights = change (right_marks (marks_at m r p)) in
    let made : b ≡ user_leaf rights wide = is
    ∙ ap (λ (l : ℕ). user_leaf (change (right_marks l)) wide) (sym (marks_at-is m r p (sym found))) in
    record {
      frame = frame_at-is m r p (sym found);
      leaf = subst IsUserLeaf (sym made) (leaf-user rights wide);
      marks = subst IsLeafMarks (sym made) (leaf-valid rights wide);
      right = ap right_marks made ∙ right-leaf rights wide;
      made = made;
    }
