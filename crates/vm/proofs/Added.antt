-- A page is added to a space: its frame is one that the space is counted to hold already, a new one or a shared one.
use Rattle.vm.proofs.Common.{Ram, [], add-one, Adds, among, among_first, ap, arith, cases_eq, count-cases, count_of}
use Rattle.vm.proofs.Common.{count_of-append, count_of-first, count_of-other, distinct-count, false, frame_at, frame_of}
use Rattle.vm.proofs.Common.{Frames, frames_below, frames_for, free-holders, free_count, free_of, further-free}
use Rattle.vm.proofs.Common.{further-same, further_at, held, held-inside, holders-free, holders-table, holders_of, inl}
use Rattle.vm.proofs.Common.{inr, is_open, IsDense, IsFreeList, List, lookup_of, marks_at, missing, nat_eq, one_if}
use Rattle.vm.proofs.Common.{OwnsFrames, page_at, page_with, pages_below, refl, SameLeavesUpTo, suc, tables_below}
use Rattle.vm.proofs.Common.{tables_for, Trades, Trades-lengths, Trades-twice, true, ℕ, ◌++◌, ◌+◌, ◌<◌, ◌∙◌, ◌∷◌, ◌≡◌}
use Rattle.vm.proofs.Common.{◌≢◌, ◌≤◌, SameTables}
use Rattle.std.specs.Prelude.{Err, Ok, Result}
use Rattle.std.specs.Result.{is_ok}
use Rattle.vm.proofs.BesideLemmas.{list-after, Besides, Trades-held, Trades-with, beyond-held, IsNext, IsTaken}
use Rattle.vm.proofs.BesideLemmas.{pages_below-same, read_below-same}
use Rattle.vm.proofs.DenseLemmas.{alone-set, dense-set, frame_at-is, held-same, made-tables, marks_at-is, missing-next}
use Rattle.vm.proofs.DenseLemmas.{pages_below-more}
use Rattle.vm.proofs.HeldLemmas.{count-held, length-held, page-held, table-held}

pub ok-unless_err : {A E : Type 0} (r : Result A E) → ((e : E) → r ≡ Err e → ⊥) → is_ok r ≡ true
ok-unless_err (Ok _) none = refl
ok-unless_err (Err e) none = absurd (none e refl)

-- the old space, beside whoever else holds the page's frame
pub record IsBefore (z : Ram) (r t n f marks : ℕ) (q : Frames) : Type 0 where
  pub space : OwnsFrames z r t n q
  pub small : n < 32768
  pub room : (v : ℕ) → count_of v (held z r t n) + count_of v (f ∷ []) ≤ holders_of z q v
  pub absent : count_of f (held z r t n) ≡ 0
  pub sole : is_open marks ≡ true → further_at q f ≡ 0

-- pages below n stay mapped, page n has frame f, and the tables that it needs are added
pub record IsAdded (z k : Ram) (r t n f : ℕ) (q w : Frames) : Type 0 where
  pub dense : IsDense z r t n
  pub small : n < 32768
  pub frame : frame_at k r n ≡ f
  pub looks : (p : ℕ) → p < n → lookup_of k r p ≡ lookup_of z r p
  pub adds : Adds z k r n q w

-- what is held then: the page's frame, and the tables that were added
pub record IsCounted (z k : Ram) (r t n f : ℕ) (q w : Frames) (v : ℕ) : Type 0 where
  pub held : count_of v (held k r t (suc n))
      ≡ count_of v (tables_for k r n) + count_of v (held z r t n) + count_of v (f ∷ [])
  pub free : count_of v (free_of z q) ≡ count_of v (tables_for k r n) + count_of v (free_of k w)
  pub tables : count_of v (tables_below k r (suc n)) ≡ count_of v (tables_for k r n) + count_of v (tables_below z r n)

module _ {z k : Ram} {r t n f : ℕ} {q w : Frames} (e : IsAdded z k r t n f q w) where
  pub added-same : (tables_below k r n ≡ tables_below z r n) × (frames_below k r n ≡ frames_below z r n)
  added-same = held-same e.dense k e.looks e.adds.stand

  pub added-count : (v : ℕ) → IsCounted z k r t n f q w v
  unfolding tables_below frames_below
  added-count v =
      let both = added-same in
      let taken : count_of v (free_of z q) ≡ count_of v (tables_for k r n) + count_of v (free_of k w) =
      ap (count_of v) (e.adds.taken ∙ ap (λ l. l ++ free_of k w) (made-tables e.dense k e.small))
      ∙ count_of-append v (tables_for k r n) (free_of k w) in
      let frames : count_of v (frames_below k r (suc n)) ≡ one_if (nat_eq v f) + count_of v (frames_below z r n) =
      ap (λ x. one_if (nat_eq v x) + count_of v (frames_below k r n)) e.frame
      ∙ ap (λ l. one_if (nat_eq v f) + count_of v l) both.1 in
      let tables : count_of v (tables_below k r (suc n))
      ≡ count_of v (tables_for k r n) + count_of v (tables_below z r n) =
      count_of-append v (tables_for k r n) (tables_below k r n)
      ∙ ap (λ l. count_of v (tables_for k r n) + count_of v l) both.0 in
      record { held = omega (arith, count-held); free = taken; tables = tables }

-- a free frame has no holder and no further one
free-none : (m : Ram) (s : Frames) (v : ℕ) → IsFreeList m s → 0 < count_of v (free_of m s)
    → (holders_of m s v ≡ 0) × (further_at s v ≡ 0)
free-none m s v is some = elim (count-cases v (free_of m s)) [
  | inl at ↦ (free-holders is v at, further-free is v at)
  | inr none ↦ absurd (omega arith)
]

module _ {z k : Ram} {r t n f marks : ℕ} {q w : Frames} (b : IsBefore z r t n f marks q)
    (e : IsNext z k r n f marks q w) where
  next-looks : (p : ℕ) → p < suc n → p ≢ n → lookup_of k r p ≡ lookup_of z r p
  next-looks p h ne = e.inserts.others p (omega arith) ne

  pub next-count : (v : ℕ) → IsCounted z k r t n f q w v
  next-count = added-count
      (record {
        dense = b.space.dense;
        small = b.small;
        frame = frame_at-is k r n e.inserts.changed;
        looks = λ p h. next-looks p (omega arith) (omega arith);
        adds = e.adds;
      })

  next-holders : (v : ℕ) → holders_of k w v + count_of v (free_of k w) ≡ holders_of z q v + count_of v (free_of z q)
  next-holders v = holders-table b.space.free e.paged.free e.keeps.count e.extra v

  pub next-held : OwnsFrames k r t (suc n) w
  next-held =
      let is = b.space in
      let further : (v : ℕ) → further_at w v ≡ further_at q v = λ v. further-same q w v e.extra in
      record {
        dense = dense-set is.dense k (suc n) n f marks e.paged.tree e.tidy (omega arith) (omega arith)
            e.inserts.changed e.leaf e.inserts.others (omega arith) (λ p h ne. omega arith);
        once = λ v. elim (cases_eq (count_of v (free_of z q)) 0) [
          | inl none ↦ elim (cases_eq v f) [
            | inl same ↦ omega (
              arith,
              next-count v,
              count_of-first v f [] same,
              ap (λ x. count_of x (held z r t n)) same,
            )
            | inr other ↦ omega (arith, next-count v, count_of-other v f [] other)
          ]
          | inr some ↦ omega (
            arith,
            next-count v,
            distinct-count v (free_of z q) is.free.distinct,
            (free-none z q v is.free (omega arith)).0,
          )
        ];
        free = e.paged.free;
        held = λ v. omega (arith, next-count v, next-holders v);
        own = λ v some. elim (cases_eq (count_of v (tables_for k r n)) 0) [
          | inl none ↦ omega (arith, further v, is.own v (omega (arith, next-count v)))
          | inr new ↦ omega (arith, further v, (free-none z q v is.free (omega (arith, next-count v))).1)
        ];
        alone = alone-set z k r n (suc n) n f marks q w (λ v. omega (arith, further v)) e.inserts.changed
            (λ p h ne. (omega arith, next-looks p h ne)) (λ wide. further f ∙ b.sole wide) is.alone;
      }

  -- a frame that has a holder and is no table of the space keeps its bytes
  next-bytes : (v : ℕ) → 0 < holders_of z q v → count_of v (tables_below z r n) ≡ 0 → frame_of k v ≡ frame_of z v
  next-bytes v some none =
      e.keeps.others v (λ h. omega (arith, table-held b.space.dense h)) (held-inside z q v b.space.free some).1

  -- the space trades for the page's frame, which it was counted to hold, and the tables that were added
  pub next-trades : Trades z k q w (f ∷ held z r t n) (held k r t (suc n))
  next-trades = record {
    count = e.keeps.count;
    moved = λ v. omega (arith, next-count v, next-holders v);
    others = λ v more. let none = (beyond-held b.space v (omega arith)).0 in next-bytes v (omega arith) (omega arith);
    fresh = λ v none some. (free-none z q v b.space.free (omega (arith, next-count v))).0;
  }

  pub next-pages : pages_below k r (suc n) ≡ pages_below z r n ++ (page_with (frame_of z f) marks ∷ [])
  next-pages =
      let old : pages_below k r n ≡ pages_below z r n =
      pages_below-same z k r n (λ p h. next-looks p (omega arith) (omega arith))
      (λ p h. let g = frame_at z r p in let at = page-held z r n p h
      in next-bytes g (omega (arith, count-held z r t n g)) (omega (arith, count-held z r t n g))) in
      let here : frame_at k r n ≡ f = frame_at-is k r n e.inserts.changed in
      let bytes : frame_of k f ≡ frame_of z f =
      next-bytes f (omega (arith, count_of-first f f [] refl)) (omega (arith, count-held z r t n f)) in
      let page : page_at k r n ≡ page_with (frame_of z f) marks =
      ap (λ x. page_with x (marks_at k r n)) (ap (frame_of k) here ∙ bytes)
      ∙ ap (page_with (frame_of z f)) (marks_at-is k r n e.inserts.changed) in
      pages_below-more k r n ∙ ap (λ x. pages_below k r n ++ (x ∷ [])) page
      ∙ ap (λ l. l ++ (page_with (frame_of z f) marks ∷ [])) old

  pub next-trap : frame_of k t ≡ frame_of z t
  next-trap =
      let one = count_of-first t t [] refl in
      next-bytes t (omega (arith, count-held z r t n t)) (omega (arith, count-held z r t n t))

-- ---- a frame gets another holder

module _ {m : Ram} {r t n : ℕ} {s : Frames} (is : OwnsFrames m r t n s) where
  -- its tables fit where the count of the next page does
  pub next-fits : n < 32768 → frames_for (n + 1) ≤ 1 + frames_for n + free_count m s → missing m r n ≤ free_count m s
  next-fits small room =
      let more : frames_for (n + 1) ≡ frames_for (suc n) = ap frames_for (add-one n) in
      omega (arith, missing-next is.dense small)

  -- a space stays intact where a frame that it holds at a closed page alone, or doesn't hold, gets another holder
  pub share-stands : (f : ℕ) {q : Frames} → IsFreeList m q
      → ((v : ℕ) → holders_of m q v ≡ holders_of m s v + count_of v (f ∷ [])) → free_of m q ≡ free_of m s
      → count_of f (tables_below m r n) + count_of f (t ∷ []) ≡ 0
      → ((p : ℕ) → p < n → frame_at m r p ≡ f → is_open (marks_at m r p) ≡ false) → OwnsFrames m r t n q
  share-stands f {q} after more list no_table closed =
      let further : (v : ℕ) → v ≢ f
      → further_at q v ≡ further_at s v =
      λ v ne. omega (
        arith,
        more v,
        count_of-other v f [] ne,
        holders-free is.free v,
        holders-free after v,
        ap (count_of v) list,
      ) in
      record {
        dense = is.dense;
        once = is.once;
        free = after;
        held = λ v. omega (arith, more v);
        own = λ v some. elim (cases_eq v f) [
          | inl same ↦ absurd (omega
              (arith, ap (λ x. count_of x (tables_below m r n)) same, ap (λ x. count_of x (t ∷ [])) same))
          | inr ne ↦ further v ne ∙ is.own v some
        ];
        alone = λ p h wide. elim (cases_eq (frame_at m r p) f) [
          | inl same ↦ absurd (let shut = closed p h same in cc)
          | inr ne ↦ further (frame_at m r p) ne ∙ is.alone p h wide
        ];
      }

-- ---- a frame that is taken becomes the next page

module _ {m z : Ram} {s q : Frames} {f : ℕ} (is : IsFreeList m s) (took : IsTaken m z s q f) where
  pub free-after : (free_of z q ≡ free_of m q) × IsFreeList z q
  free-after = list-after m z s q f is took.taken took.after took.count took.others

  taken-free : among f (free_of m s) ≡ true
  taken-free = ap (among f) took.taken ∙ among_first f (free_of m q)

  -- its holder trades nothing for it
  taken-trades : Trades m z s q [] (f ∷ [])
  taken-trades =
      let after = free-after in
      let none = free-holders is f (taken-free) in
      record {
        count = took.count;
        moved = λ v. omega (
          arith,
          holders-table is after.1 took.count took.extra v,
          ap (count_of v) took.taken,
          ap (count_of v) after.0,
        );
        others = λ v some. took.others v (λ e. omega (arith, ap (holders_of m s) e));
        fresh = λ v absent some. elim (cases_eq v f)
            [ inl e ↦ ap (holders_of m s) e ∙ none | inr ne ↦ absurd (omega (arith, count_of-other v f [] ne)) ];
      }

-- the page was added, with these bytes
pub record IsGrown (m k : Ram) (r t n marks : ℕ) (bytes : List ℕ) (s w : Frames) : Type 0 where
  pub space : OwnsFrames k r t (n + 1) w
  pub pages : pages_below k r (n + 1) ≡ pages_below m r n ++ (page_with bytes marks ∷ [])
  pub mapping : SameLeavesUpTo m k r n
  pub trap : frame_of k t ≡ frame_of m t
  pub trades : Trades m k s w (held m r t n) (held k r t (n + 1))
  pub room : frames_for (n + 1) + free_count k w ≡ frames_for n + free_count m s

module _ {m z : Ram} {r t n f : ℕ} {s q : Frames} (is : OwnsFrames m r t n s) (took : IsTaken m z s q f) where
  -- the space is intact beside that
  taken-beside : Besides m z q r t n
  taken-beside = Trades-held (taken-trades is.free took) is (λ v. omega arith) (free-after is.free took).1

  pub taken-before : (marks : ℕ) → n < 32768 → IsBefore z r t n f marks q
  taken-before marks small =
      let beside = taken-beside in
      let at = taken-free is.free took in
      record {
        space = beside.space;
        small = small;
        room = λ v. omega (arith, (taken-trades is.free took).moved v, ap (count_of v) beside.same);
        absent = omega (arith, free-holders is.free f at, ap (count_of f) beside.same);
        sole = λ wide. further-same s q f took.extra ∙ further-free is.free f at;
      }

  -- its tables are where they were
  pub taken-nodes : SameTables m z r
  taken-nodes = let beside = taken-beside in beside.stays.put.nodes

  -- the tables that the page needs are free
  pub taken-fits : n < 32768 → frames_for (n + 1) ≤ frames_for n + free_count m s → missing z r n ≤ free_count z q
  taken-fits small room =
      let beside = taken-beside in
      next-fits beside.space small
      (omega (arith, Trades-lengths (taken-trades is.free took) is.free beside.space.free (λ v. omega arith)))

  pub taken-grown : (k : Ram) {marks : ℕ} {bytes : List ℕ} {w : Frames} → n < 32768 → frame_of z f ≡ bytes
      → IsNext z k r n f marks q w → IsGrown m k r t n marks bytes s w
  taken-grown k {marks} small e next =
      let b = taken-before marks small in
      let beside = taken-beside in
      let stays = beside.stays in
      let space = next-held b next in
      let first : Trades m z s q (held m r t n) (f ∷ held z r t n) =
      Trades-with (taken-trades is.free took) (held m r t n) (held m r t n) (f ∷ held z r t n) (λ v. omega arith)
      (λ v. omega (arith, ap (count_of v) beside.same)) in
      let trades = Trades-twice first (next-trades b next) in
      record {
        space = rw add-one space;
        pages = rw add-one (next-pages b next) ∙ ap (λ l. l ++ (page_with (frame_of z f) marks ∷ [])) stays.pages
            ∙ ap (λ x. pages_below m r n ++ (page_with x marks ∷ [])) e;
        mapping = λ read b le. read_below-same read m k r b
            (λ p h. next.inserts.others p (omega arith) (omega arith) ∙ stays.put.looks p);
        trap = next-trap b next ∙ stays.trap;
        trades = rw add-one trades;
        room = rw add-one (omega
            (arith, Trades-lengths trades is.free space.free is.held, length-held m r t n, length-held k r t (suc n)));
      }
