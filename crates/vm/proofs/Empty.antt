-- A space of no pages is made, and goes.
use Rattle.vm.proofs.Common.{Ram, [], among, among_first, ap, arith, cases_eq, count-cases, count_of, count_of-first}
use Rattle.vm.proofs.Common.{count_of-other, distinct-count, false, frame_of, Frames, frames_below, free-holders}
use Rattle.vm.proofs.Common.{free_count, free_of, further-free, further-same, held, held-inside, holders-table, inl}
use Rattle.vm.proofs.Common.{inr, IsFreeList, lookup_of, missing, one_if, OwnsFrames, refl, tables_below, Trades, true}
use Rattle.vm.proofs.Common.{ℕ, ◌++◌, ◌+◌, ◌<◌, ◌∙◌, ◌∷◌, ◌≡◌, ◌≢◌, among-none, extra_of, IsPaged, length, lookup-sound}
use Rattle.vm.proofs.Common.{Option, Some, sym, trap_page, unwrap_or, among_first_not, eqb, free-first}
use Rattle.vm.proofs.Common.{free_count-taken, get_or-set_other, HasTable, IsEmpty, IsEmpty-tables, IsNode, length-set}
use Rattle.vm.proofs.Common.{lookup_of-same, low_node, made-is, mid_is_node, mid_node, missing-is, Node, None}
use Rattle.vm.proofs.Common.{none-among, only-root, replicate, Root, root_at, slice_set, table_at, table_at-same}
use Rattle.vm.proofs.Common.{table_of, trap_marks}
use Rattle.vm.proofs.BesideLemmas.{beyond-held, IsNext, IsTaken, held-not_free, paged-same}
use Rattle.vm.proofs.HeldLemmas.{count-held, table-held, cases_root}
use Rattle.vm.proofs.Added.{free-after}
use Rattle.vm.proofs.Removed.{IsGiven, IsUnmapped}

-- ---- a space of no pages is made, and goes

-- an empty page table whose frame was free, and then a frame that is taken
pub record IsStart (m j z : Ram) (s a q : Frames) (r t : ℕ) : Type 0 where
  pub free : IsFreeList m s
  pub first : free_of m s ≡ r ∷ free_of j a
  pub start : j ≡ slice_set m r (replicate 4096 0)
  pub paged : IsPaged j r a
  pub empty : IsEmpty j r
  pub taken : IsTaken j z a q t
  pub extra : extra_of a ≡ extra_of s

module _ {m j z : Ram} {s a q : Frames} {r t : ℕ} (is : IsStart m j z s a q r t) where
  pub start-apart : t ≢ r
  start-apart e =
      let out : among r (free_of j a) ≡ false = is.paged.apart Root r tt (root_at j r) in
      let at : among t (free_of j a) ≡ true = ap (among t) is.taken.taken ∙ among_first t (free_of j q) in
      cc (ap (λ x. among x (free_of j a)) e, out, at)

  start-same : (v : ℕ) → HasTable j r v → frame_of z v ≡ frame_of j v
  start-same v h = is.taken.others v (λ e. start-apart (sym e ∙ (only-root is.empty h.place v h.is_node h.at_place).1))

  pub start-empty : IsEmpty z r
  start-empty =
      let same = start-same in
      record {
        tables = λ x nx nr. table_at-same j z r same x nx ∙ is.empty.tables x nx nr;
        pages = λ p. lookup_of-same j z r same p ∙ is.empty.pages p;
      }

  pub start-paged : IsPaged z r q
  start-paged =
      let after = free-after is.paged.free is.taken in
      paged-same is.paged.tree is.taken.count (start-same) after.1 (λ v h. (
        rw after.0 (among_first_not v t (free_of j q)
            (rw is.taken.taken at (is.paged.apart h.place v h.is_node h.at_place))).1,
        further-same a q v is.taken.extra ∙ is.paged.own h.place v h.is_node h.at_place,
      ))

  pub start-missing : missing z r trap_page ≡ 2
  start-missing = missing-is z r trap_page
      (sym ((start-empty).tables (mid_node trap_page) (mid_is_node trap_page) (λ e. cc))) refl

  pub start-free : free_of m s ≡ r ∷ t ∷ free_of z q
  start-free = is.first ∙ ap (λ l. r ∷ l) (is.taken.taken ∙ ap (λ l. t ∷ l) (sym (free-after is.paged.free is.taken).0))

  pub start-count : free_count m s ≡ 2 + free_count z q
  start-count = free_count-taken m z s q 2 (omega (arith, ap length start-free)) (is.taken.extra ∙ is.extra)
      (free-after is.paged.free is.taken).1

-- the space is intact, and traded nothing for its frames
pub record IsMade (m z k : Ram) (r t : ℕ) (s w : Frames) : Type 0 where
  pub space : OwnsFrames k r t 0 w
  pub registers : frame_of k t ≡ frame_of z t
  pub trades : Trades m k s w [] (held k r t 0)

module _ {m j z k : Ram} {s a q w : Frames} {r t : ℕ} (is : IsStart m j z s a q r t)
    (next : IsNext z k r trap_page t trap_marks q w) where
  count-start : (g : ℕ) → count_of g (held k r t 0) + count_of g (free_of k w) ≡ count_of g (free_of m s)
  unfolding tables_below frames_below
  count-start g =
      let none = (start-empty is).tables (mid_node trap_page) (mid_is_node trap_page) (λ e. cc) in
      let all : free_of m s ≡ r ∷ t ∷ table_of k r (mid_node trap_page) ∷ table_of k r (low_node trap_page)
      ∷ free_of k w =
      start-free is ∙ ap (λ l. r ∷ t ∷ l)
      (next.adds.taken ∙ ap (λ l. l ++ free_of k w) (made-is z k r trap_page (sym none) refl)) in
      omega (arith, ap (count_of g) all)

  pub start-made : IsMade m z k r t s w
  start-made =
      let zeros = replicate {A = ℕ} 4096 0 in
      let len : length k ≡ length m = next.keeps.count ∙ is.taken.count ∙ ap length is.start ∙ length-set m r zeros in
      let extra = next.extra ∙ is.taken.extra ∙ is.extra in
      let counts = count-start in
      let holders = holders-table is.free next.paged.free len extra in
      let free : (g : ℕ) → 0 < count_of g (held k r t 0) → among g (free_of m s) ≡ true = λ g some.
      elim (count-cases g (free_of m s)) [ inl at ↦ at | inr none ↦ absurd (omega (arith, counts g)) ] in
      let stays : (g : ℕ) → g ≢ r → count_of g (free_of z q) ≡ 0 → frame_of k g ≡ frame_of z g = λ g ne none.
      next.keeps.others g (λ h. ne (only-root (start-empty is) h.place g h.is_node h.at_place).1)
      (among-none g (free_of z q) none) in
      record {
        space = record {
          dense = record {
            tree = next.paged.tree;
            tidy = next.tidy;
            small = omega arith;
            pages = λ p h. absurd (omega arith);
            leaves = λ p h. absurd (omega arith);
            trap = next.inserts.changed;
            rest = λ p _ low ne. next.inserts.others p low ne ∙ (start-empty is).pages p;
          };
          once = λ g. omega (arith, counts g, distinct-count g (free_of m s) is.free.distinct);
          free = next.paged.free;
          own = λ g some. further-same s w g extra ∙ further-free is.free g (free g (omega (arith, count-held)));
          alone = λ p low wide. absurd (omega arith);
          held = λ g. omega (arith, counts g, holders g);
        };
        registers =
            stays t (start-apart is)
            (none-among t (free_of z q)
            (ap (among t) ((free-after is.paged.free is.taken).0)
            ∙ (free-first is.paged.free t (free_of j q) is.taken.taken).1));
        trades = record {
          count = len;
          moved = λ g. omega (arith, counts g, holders g);
          others = λ g h.
              let none : count_of g (r ∷ t ∷ free_of z q) ≡ 0 = ap (count_of g) (sym (start-free is))
              ∙ none-among g (free_of m s) (held-inside m s g is.free (omega arith)).1 in
              let not_r : g ≢ r = λ e. omega (arith, count_of-first g r (t ∷ free_of z q) e) in
              let not_t : g ≢ t = λ e. omega (arith, count_of-first g t (free_of z q) e) in
              stays g not_r (omega arith) ∙ is.taken.others g not_t
              ∙ rw is.start (get_or-set_other m r g zeros [] not_r);
          fresh = λ g none some. free-holders is.free g (free g some);
        };
      }

-- ---- a space of no pages goes

none-of : (o : Option ℕ) → ((v : ℕ) → o ≡ Some v → ⊥) → o ≡ None
none-of None h = refl
none-of (Some v) h = absurd (h v refl)

first-one : (f : ℕ) → one_if (eqb f f) ≡ 1
first-one f = omega (arith, count_of-first f f [] refl)

module _ {m j : Ram} {r t f : ℕ} {s a : Frames} (is : OwnsFrames m r t 0 s) (u : IsUnmapped m j r trap_page f s a) where
  -- nothing is mapped then
  pub end-tables : (x : Node) (v : ℕ) → IsNode x → x ≢ Root → table_at j r x ≡ Some v → ⊥
  end-tables x v nx nr h =
      let w = u.tidy.used x v nx nr h in
      let none : lookup_of j r w.page ≡ None = elim (cases_eq w.page trap_page) [
        | inl e ↦ ap (lookup_of j r) e ∙ u.removes.changed
        | inr ne ↦ u.removes.others w.page w.inside ne ∙ is.dense.rest w.page (omega arith) w.inside ne
      ] in
      cc

  end-root : (v : ℕ) → HasTable j r v → v ≡ r
  end-root v h = elim (cases_root h.place) [
    | inl e ↦ let g : Some v ≡ Some r = sym h.at_place ∙ ap (table_at j r) e ∙ root_at j r in cc
    | inr ne ↦ absurd (end-tables h.place v h.is_node ne h.at_place)
  ]

  -- all its frames are free or those two
  pub count-ended : (g : ℕ)
      → count_of g (held m r t 0) + count_of g (free_of m s)
      ≡ one_if (eqb g r) + one_if (eqb g t) + count_of g (free_of j a)
  unfolding tables_below frames_below
  count-ended g =
      let none = none-of (table_at j r (mid_node trap_page))
      (λ v h. end-tables (mid_node trap_page) v (mid_is_node trap_page) (λ e. cc) h) in
      let all : free_of j a ≡ table_of m r (mid_node trap_page) ∷ table_of m r (low_node trap_page) ∷ free_of m s =
      u.drops.taken ∙ ap (λ l. l ++ free_of m s) (made-is j m r trap_page (sym none) refl) in
      omega (arith, ap (count_of g) all)

  pub end-trap : f ≡ t
  end-trap = sym u.was ∙ ap (λ (o : Option (ℕ × ℕ)). (unwrap_or o (0, 0)).0) is.dense.trap

  pub end-inside : f < length j
  end-inside =
      omega (arith, (lookup-sound is.dense.tree trap_page is.dense.trap).0, end-trap)

  pub end-held : among f (free_of j a) ≡ false
  end-held = rw end-trap (among-none t (free_of j a) (omega (arith, count-ended t, held-not_free is t, first-one t)))

  end-apart : r ≢ f
  end-apart e =
      omega (arith, count-ended r, held-not_free is r, first-one r, ap (λ x. one_if (eqb r x)) (e ∙ end-trap))

given-other : {j k : Ram} {f : ℕ} {a w : Frames} → IsGiven j k f a w → (v : ℕ) → v ≢ f → frame_of k v ≡ frame_of j v
given-other {f} g v ne = g.others.others v (among-none v (f ∷ []) (count_of-other v f [] ne))

module _ {m j k : Ram} {r t f : ℕ} {s a w : Frames} (is : OwnsFrames m r t 0 s) (u : IsUnmapped m j r trap_page f s a)
    (g : IsGiven j k f a w) where
  end-same : (v : ℕ) → HasTable j r v → frame_of k v ≡ frame_of j v
  end-same v h = given-other g v (λ e. end-apart is u (sym (end-root is u v h) ∙ e))

  -- the root is its only table then
  pub end-empty : IsEmpty k r
  end-empty =
      IsEmpty-tables k r (λ x nx nr. none-of (table_at k r x) (λ v h.
      end-tables is u x v nx nr (sym (table_at-same j k r end-same x nx) ∙ h)))

  -- the trap frame had no other holder, nor had the root
  end-free : (free_of k w ≡ f ∷ free_of j a) × (extra_of w ≡ extra_of a)
  end-free =
      g.last (further-same s a f u.extra
      ∙ is.own f (omega (arith, first-one t, ap (λ x. count_of x (t ∷ [])) (end-trap is u))))

  pub end-paged : IsPaged k r w
  end-paged =
      let free = end-free in
      paged-same u.paged.tree g.others.count end-same g.valid (λ v h.
      let other : v ≢ f = λ z. end-apart is u (sym (end-root is u v h) ∙ z) in (
        among-none v (free_of k w)
            (omega (
              arith,
              ap (count_of v) free.0,
              none-among v (free_of j a) (u.paged.apart h.place v h.is_node h.at_place),
              count_of-other v f (free_of j a) other,
            )),
        further-same a w v free.1 ∙ u.paged.own h.place v h.is_node h.at_place,
      ))

  pub Trades-end : {l : Ram} {q : Frames} → IsGiven k l r w q → Trades m l s q (held m r t 0) []
  unfolding frames_below
  Trades-end {l} e =
      let len : length l ≡ length m = e.others.count ∙ g.others.count ∙ u.keeps.count in
      let trap = end-trap is u in
      let given = end-free in
      let root = e.last (further-same s w r (given.1 ∙ u.extra)
      ∙ (is.own r (omega (
        arith,
        table-held is.dense (record { place = Root; is_node = tt; at_place = root_at m r }),
      )))) in
      record {
        count = len;
        moved = λ v. omega (
          arith,
          count-ended is u v,
          ap (count_of v) given.0,
          ap (count_of v) root.0,
          ap (λ x. one_if (eqb v x)) trap,
          holders-table is.free e.valid len (root.1 ∙ given.1 ∙ u.extra) v,
        );
        others = λ v h.
            let beyond = beyond-held is v h in
            let none : count_of v (held m r t 0) ≡ 0 = omega (arith, count-held) in
            let free = beyond.1 in
            let both = count-ended is u v in
            given-other e v (λ z. omega (arith, ap (λ x. one_if (eqb v x)) (sym z), first-one v))
            ∙ given-other g v (λ z. omega (arith, ap (λ x. one_if (eqb v x)) (sym (z ∙ trap)), first-one v))
            ∙ u.keeps.others v (λ y. omega (arith, count-held, table-held is.dense y))
            (among-none v (free_of m s) free);
        fresh = λ v none some. absurd (omega arith);
      }
