-- Lemmas on the tables that are added and removed.
use Rattle.frames.specs.declared.memory.Memory.{Memory}
use Rattle.pagetable.specs.Owned.{Adds as AddsIn, Changes, Drops, MapsTo, Rewrites, TakesMissing}
use Rattle.pagetable.proofs.Common.{Ram, Adds, ap, arith, cases_eq, extra_of, Frames, free_count, free_of, inl, inr}
use Rattle.pagetable.proofs.Common.{Inserts, IsNode, IsPaged, IsTidy, IsUsed, length, length-append, lookup_of}
use Rattle.pagetable.proofs.Common.{low_node, made, made_by, mid_node, missing, missing_by, Node, None, Option, refl}
use Rattle.pagetable.proofs.Common.{SameMap, Some, sym, table_at, table_of, unwrap_or, ℕ, ◌++◌, ◌+◌, ◌-◌, ◌<◌, ◌^◌, ◌∙◌}
use Rattle.pagetable.proofs.Common.{◌≡◌, ◌≢◌, ◌⊎◌, child_at, entry_of, leaf_at, leaf_of, Low, Mid, Removes, ◌%◌, ◌*◌}
use Rattle.pagetable.proofs.Common.{◌/◌, [], among, frame_of, free_of-same, get_or-set_other, IsEmpty, IsFreeList}
use Rattle.pagetable.proofs.Common.{IsFreeList-same, IsLast, length-set, no_table, replicate, Root, SameTables}
use Rattle.pagetable.proofs.Common.{slice_set, true, ◌∷◌}
use Rattle.pagetable.specs.Tree.{Maps}
use Rattle.pagetable.proofs.TreeLemmas.{cases_node, child_of-some, leaf_of-some, child_of-zero, entry_of-zeros}
use Rattle.pagetable.proofs.TreeLemmas.{low_is_node, mid_is_node, no_low, root_at}
use Rattle.pagetable.proofs.WriteLemmas.{free_count-taken, free-first, further-taken}

-- ---- a page is added

pub table_of-some : (m : Ram) (r : ℕ) (x : Node) (t : ℕ) → table_at m r x ≡ Some t → table_of m r x ≡ t
table_of-some m r x t e = rw e refl

pub some-table_of : (m : Ram) (r : ℕ) (x : Node) (t : ℕ) → table_at m r x ≡ Some t
    → table_at m r x ≡ Some (table_of m r x)
some-table_of m r x t e = e ∙ ap Some (sym (table_of-some m r x t e))

pub made-is : (m k : Ram) (r page : ℕ) {o q : Option ℕ} → o ≡ table_at m r (mid_node page)
    → q ≡ table_at m r (low_node page)
    → made m k r page ≡ made_by o q (table_of k r (mid_node page)) (table_of k r (low_node page))
unfolding made
made-is m k r page a b = rw (← a, ← b) refl

length-made_by : (a b : Option ℕ) (t u : ℕ) → length (made_by a b t u) ≡ missing_by a b
length-made_by None b t u = refl
length-made_by (Some a) None t u = refl
length-made_by (Some a) (Some b) t u = refl

pub length-made : (m k : Ram) (r page : ℕ) → length (made m k r page) ≡ missing m r page
unfolding made missing
length-made m k r page =
    length-made_by (table_at m r (mid_node page)) (table_at m r (low_node page)) (table_of k r (mid_node page))
    (table_of k r (low_node page))

-- the tables on the way to a page are these now, which weren't there or were these, and all others are as they were
pub Adds-by : (m l : Ram) (r page : ℕ) (s n : Frames) {t u : ℕ} {o q : Option ℕ} → o ≡ table_at m r (mid_node page)
    → q ≡ table_at m r (low_node page) → unwrap_or o t ≡ t → unwrap_or q u ≡ u → table_at l r (mid_node page) ≡ Some t
    → table_at l r (low_node page) ≡ Some u
    → ((x : Node) → IsNode x → x ≢ mid_node page → x ≢ low_node page → table_at l r x ≡ table_at m r x)
    → free_of m s ≡ made_by o q t u ++ free_of l n → Adds m l r page s n
Adds-by m l r page s n {t} {u} a b old older mid low beside taken = record {
  mid = some-table_of l r (mid_node page) t mid;
  low = some-table_of l r (low_node page) u low;
  stand = λ x v nx h. elim (cases_node x (mid_node page)) [
    | inl e ↦ let is : v ≡ t = sym (ap (λ y. unwrap_or y t) (a ∙ rw e at h)) ∙ old in rw (e, is) mid
    | inr nm ↦ elim (cases_node x (low_node page)) [
      | inl e ↦ let is : v ≡ u = sym (ap (λ y. unwrap_or y u) (b ∙ rw e at h)) ∙ older in rw (e, is) low
      | inr nl ↦ beside x nx nm nl ∙ h
    ]
  ];
  beside = beside;
  taken = rw (made-is m l r page a b, table_of-some l r (mid_node page) t mid, table_of-some l r (low_node page) u low)
      taken;
}

-- the tables stay in use
pub IsTidy-insert : {m : Ram} (k : Ram) {r page : ℕ} {value : ℕ × ℕ} → IsTidy m r → page < 2 ^ 27
    → Inserts (lookup_of m r) (lookup_of k r) page value
    → ((x : Node) → IsNode x → x ≢ mid_node page → x ≢ low_node page → table_at k r x ≡ table_at m r x)
    → IsTidy k r
IsTidy-insert {m} k {r} {page} {value} is small ins beside = record {
  used = λ x t nx nr h.
      let here : (x ≡ mid_node page) ⊎ (x ≡ low_node page)
      → IsUsed k r x = λ o. record
      { page = page; value = value; inside = small; over = o; mapped = ins.changed } in
      elim (cases_node x (mid_node page)) [
        | inl e ↦ here (inl e)
        | inr nm ↦ elim (cases_node x (low_node page)) [
          | inl e ↦ here (inr e)
          | inr nl ↦
              let u : IsUsed m r x = is.used x t nx nr (sym (beside x nx nm nl) ∙ h) in
              elim (cases_eq u.page page) [
                | inl same ↦ here (rw (← same) u.over)
                | inr other ↦ record {
                  page = u.page;
                  value = u.value;
                  inside = u.inside;
                  over = u.over;
                  mapped = ins.others u.page u.inside other ∙ u.mapped;
                }
              ]
        ]
      ];
}

pub Inserts-after : (m k l : Ram) (r page : ℕ) (value : ℕ × ℕ) → SameMap m k r
    → Inserts (lookup_of k r) (lookup_of l r) page value → Inserts (lookup_of m r) (lookup_of l r) page value
Inserts-after m k l r page value same ins =
    record { changed = ins.changed; others = λ p small ne. ins.others p small ne ∙ same p }

-- what holds of a page that is mapped by these tables
pub record IsMapped (m k : Memory) (r page f marks : ℕ) : Type 0 where
  pub mapped : MapsTo m k r page f marks
  pub taken : TakesMissing m k r page
  pub not_refused : ¬ (free_count m.ram m.frames < missing m.ram r page)

pub mapped-by : {m k : Memory} {r page f marks : ℕ} → Maps m.ram k.ram r page f marks → page < 2 ^ 27 → Changes m k r
    → AddsIn m k r page → IsMapped m k r page f marks
mapped-by {m} {k} {r} {page} maps small changes adds =
    let taken = free_count-taken m.ram k.ram m.frames k.frames (missing m.ram r page)
    (rw (adds.taken, length-append, length-made m.ram k.ram r page) refl) changes.extra changes.paged.free in
    record {
      mapped = record {
        maps = maps;
        adds = adds;
        tidy = λ tidy. IsTidy-insert k.ram tidy small maps adds.beside;
        changes = changes;
      };
      taken = taken;
      not_refused = λ less. absurd (omega arith);
    }

-- ---- a page is removed

pub some-none : {v : ℕ} → ◌≡◌ {A = Option ℕ} (Some v) None → ⊥
some-none e = cc

some-of : {A : Type 0} (o : Option A) → (o ≡ None → ⊥) → (a : A) × (o ≡ Some a)
some-of None none = absurd (none refl)
some-of (Some a) none = (a, refl)

-- where the table whose entries map a page is there, none is added
pub Adds-none : (m k : Ram) (r page : ℕ) (s n : Frames) {u : ℕ} → table_at m r (low_node page) ≡ Some u
    → SameTables m k r → free_of k n ≡ free_of m s → Adds m k r page s n
Adds-none m k r page s n low tables free =
    let mid = some-of (table_at m r (mid_node page)) (λ none. cc (no_low m r page none, low)) in
    Adds-by m k r page s n (sym mid.1) (sym low) refl refl (tables (mid_node page) (mid_is_node page) ∙ mid.1)
    (tables (low_node page) (low_is_node page) ∙ low) (λ x nx _ _. tables x nx) (sym free)

-- the tables on the way to a page are in use where the page before it has the same and is mapped
pub used-before : (k : Ram) (r page : ℕ) → page < 2 ^ 27 → page % 512 ≢ 0 → lookup_of k r (page - 1) ≢ None → (x : Node)
    → (x ≡ mid_node page) ⊎ (x ≡ low_node page) → IsUsed k r x
used-before k r page small inner mapped x o =
    let before = some-of (lookup_of k r (page - 1)) mapped in
    let a : (page - 1) / 262144 % 512 ≡ page / 262144 % 512 = omega (arith, inner) in
    let b : (page - 1) / 512 % 512 ≡ page / 512 % 512 = omega (arith, inner) in
    record { page = page - 1; value = before.0; inside = omega (arith, small); over = rw (a, b) o; mapped = before.1 }

-- a used entry of the low table
pub used-low : (k : Ram) (r page : ℕ) {u : ℕ} (i : ℕ) → page < 2 ^ 27 → table_at k r (low_node page) ≡ Some u → i < 512
    → entry_of k u i ≢ 0 → (x : Node) → (x ≡ mid_node page) ⊎ (x ≡ low_node page) → IsUsed k r x
unfolding lookup_of
used-low k r page {u} i small at low ne x o =
    let q = page / 512 * 512 + i in
    let a : q / 262144 % 512 ≡ page / 262144 % 512 = omega arith in
    let b : q / 512 % 512 ≡ page / 512 % 512 = omega arith in
    let c : q % 512 ≡ i = omega arith in
    let mid : mid_node q ≡ mid_node page = ap Mid a in
    let node : low_node q ≡ low_node page = ap (λ y. Low y (q / 512 % 512)) a ∙ ap (Low (page / 262144 % 512)) b in
    record {
      page = q;
      value = _;
      inside = omega arith;
      over = elim o [ inl e ↦ inl (e ∙ sym mid) | inr e ↦ inr (e ∙ sym node) ];
      mapped = ap (λ y. leaf_at k (table_at k r y) (q % 512)) node
          ∙ ap (λ y. leaf_at k y (q % 512)) at ∙ ap (λ y. leaf_of (entry_of k u y)) c
          ∙ leaf_of-some (entry_of k u i) ne;
    }

low-first-same : (a b c d : ℕ) → Low a b ≡ Low c d → a ≡ c
low-first-same a b c d e = cc

module _ {m k : Ram} {r page : ℕ} {s n : Frames} (is : IsTidy m r) (rem : Removes (lookup_of m r) (lookup_of k r) page)
    (drops : Adds k m r page n s) where
  -- no table except the root is empty afterwards
  pub IsTidy-remove : ((t : ℕ) → table_at k r (mid_node page) ≡ Some t → IsUsed k r (mid_node page))
      → ((t : ℕ) → table_at k r (low_node page) ≡ Some t → IsUsed k r (low_node page)) → IsTidy k r
  IsTidy-remove mid low = record {
    used = λ x t nx nr h.
        let u = is.used x t nx nr (drops.stand x t nx h) in
        elim (cases_eq u.page page) [
          | inl same ↦ elim u.over [
            | inl e ↦ let at : x ≡ mid_node page = e ∙ ap mid_node same in rw at (mid t (rw at at h))
            | inr e ↦ let at : x ≡ low_node page = e ∙ ap low_node same in rw at (low t (rw at at h))
          ]
          | inr ne ↦ record {
            page = u.page;
            value = u.value;
            inside = u.inside;
            over = u.over;
            mapped = rem.others u.page u.inside ne ∙ u.mapped;
          }
        ];
  }

  -- a used entry of the mid table
  pub used-mid : (t j : ℕ) → page < 2 ^ 27 → table_at k r (mid_node page) ≡ Some t
      → table_at k r (low_node page) ≡ None → j < 512 → entry_of k t j ≢ 0 → IsUsed k r (mid_node page)
  unfolding table_at
  used-mid t j small at none low ne =
      let a = page / 262144 % 512 in
      let there : table_at k r (Low a j) ≡ Some _ = ap (λ o. child_at k o j) at ∙ child_of-some (entry_of k t j) ne in
      let u = is.used (Low a j) _ (omega arith, low) (λ e. cc) (drops.stand (Low a j) _ (omega arith, low) there) in
      elim u.over [
        | inl e ↦ absurd cc
        | inr e ↦
            let other : u.page ≢ page = λ f. some-none (sym there ∙ ap (table_at k r) (e ∙ ap low_node f) ∙ none) in
            let first : a ≡ u.page / 262144 % 512 = low-first-same a j (u.page / 262144 % 512) (u.page / 512 % 512) e in
            record {
              page = u.page;
              value = u.value;
              inside = u.inside;
              over = inl (ap Mid first);
              mapped = rem.others u.page u.inside other ∙ u.mapped;
            }
      ]

pub Removes-after : (m k l : Ram) (r page : ℕ) → SameMap k l r → Removes (lookup_of m r) (lookup_of k r) page
    → Removes (lookup_of m r) (lookup_of l r) page
Removes-after m k l r page same rem =
    record { changed = same page ∙ rem.changed; others = λ p small ne. same p ∙ rem.others p small ne }

-- the tables on the way to a page
pub record IsWay (m : Ram) (r page mid low : ℕ) : Type 0 where
  pub at_mid : table_at m r (mid_node page) ≡ Some mid
  pub at_low : table_at m r (low_node page) ≡ Some low

module _ {m k a : Memory} {r page mid low : ℕ} (way : IsWay m.ram r page mid low)
    (removes : Removes (lookup_of m.ram r) (lookup_of k.ram r) page) (clear : Rewrites m k r)
    (one : Drops k a r (low_node page) low) where
  pub low-removes : Removes (lookup_of m.ram r) (lookup_of a.ram r) page
  low-removes = Removes-after m.ram k.ram a.ram r page one.same removes

  pub low-mid : table_at a.ram r (mid_node page) ≡ Some mid
  low-mid = one.beside (mid_node page) (mid_is_node page) (λ e. cc)
      ∙ clear.tables (mid_node page) (mid_is_node page) ∙ way.at_mid

  pub low-drops : AddsIn a m r page
  low-drops = Adds-by a.ram m.ram r page a.frames m.frames (sym low-mid) (sym one.gone) refl refl way.at_mid way.at_low
      (λ x nx _ nl. sym (one.beside x nx nl ∙ clear.tables x nx)) (rw clear.free at one.given)

  module _ {b : Memory} (two : Drops a b r (mid_node page) mid) where
    pub both-low : table_at b.ram r (low_node page) ≡ None
    both-low = two.beside (low_node page) (low_is_node page) (λ e. cc) ∙ one.gone

    pub both-removes : Removes (lookup_of m.ram r) (lookup_of b.ram r) page
    both-removes = Removes-after m.ram k.ram b.ram r page (λ p. two.same p ∙ one.same p) removes

    pub both-drops : AddsIn b m r page
    both-drops = Adds-by b.ram m.ram r page b.frames m.frames (sym two.gone) (sym both-low) refl refl way.at_mid
        way.at_low
        (λ x nx nm nl. sym (two.beside x nx nm ∙ one.beside x nx nl ∙ clear.tables x nx))
        (two.given ∙ ap (λ l. mid ∷ l) (rw clear.free at one.given))

    pub both-tidy : IsTidy m.ram r → IsTidy b.ram r
    both-tidy is = IsTidy-remove is both-removes both-drops (λ t h. absurd (some-none (sym h ∙ two.gone)))
        (λ t h. absurd (some-none (sym h ∙ both-low)))

-- where a page was the last one of its table of the middle level, both tables on the way to it name nothing
module _ (m z : Ram) (r page : ℕ) (last : IsLast m r page) (rem : Removes (lookup_of m r) (lookup_of z r) page)
    (small : page < 2 ^ 27) where
  last-unused : IsUsed z r (mid_node page) → ⊥
  last-unused u = elim u.over [
    | inl e ↦ elim (cases_eq u.page page) [
      | inl same ↦ let none = ap (lookup_of z r) same ∙ rem.changed in let some = u.mapped in cc
      | inr other ↦
          let none = rem.others u.page u.inside other ∙ last u.page u.inside other (sym e) in
          let some = u.mapped in
          cc
    ]
    | inr e ↦ cc
  ]

  pub last-low : {u : ℕ} → table_at z r (low_node page) ≡ Some u → (i : ℕ) → i < 512 → entry_of z u i ≡ 0
  last-low {u} at i l = elim (cases_eq (entry_of z u i) 0) [
    | inl e ↦ e
    | inr ne ↦ absurd (last-unused (used-low z r page i small at l ne (mid_node page) (inl refl)))
  ]

  pub last-mid : {s n : Frames} {t : ℕ} → IsTidy m r → Adds z m r page n s → table_at z r (mid_node page) ≡ Some t
      → table_at z r (low_node page) ≡ None → (i : ℕ) → i < 512 → entry_of z t i ≡ 0
  last-mid {s} {n} {t} is drops at none i l = elim (cases_eq (entry_of z t i) 0) [
    | inl e ↦ e
    | inr ne ↦ absurd (last-unused (used-mid is rem drops t i small at none l ne))
  ]

-- ---- a page table that maps nothing

module _ (k : Ram) (r : ℕ) where
  pub empty-tables : ((i : ℕ) → i < 512 → entry_of k r i ≡ 0) → (x : Node) → IsNode x → x ≢ Root → table_at k r x ≡ None
  unfolding table_at
  empty-tables zero Root nx nr = absurd (nr refl)
  empty-tables zero (Mid a) nx nr = rw (zero a nx) child_of-zero
  empty-tables zero (Low a b) nx nr = rw (zero a nx.0, child_of-zero) refl

  no_tables-lookup : ((x : Node) → IsNode x → x ≢ Root → table_at k r x ≡ None) → (p : ℕ) → lookup_of k r p ≡ None
  unfolding lookup_of
  no_tables-lookup none p = rw (none (low_node p) (omega arith, omega arith) (λ e. cc)) refl

  -- where the root is the only table no page is mapped
  pub IsEmpty-tables : ((x : Node) → IsNode x → x ≢ Root → table_at k r x ≡ None) → IsEmpty k r
  IsEmpty-tables none = record { tables = none; pages = no_tables-lookup none }

  pub IsEmpty-zeros : ((i : ℕ) → i < 512 → entry_of k r i ≡ 0) → IsEmpty k r
  IsEmpty-zeros zero = IsEmpty-tables (empty-tables zero)

module _ {k : Ram} {r : ℕ} (is : IsEmpty k r) where
  pub IsTidy-empty : IsTidy k r
  IsTidy-empty = record { used = λ x t nx nr h. absurd (let none = is.tables x nx nr in cc) }

  pub only-root : (x : Node) (t : ℕ) → IsNode x → table_at k r x ≡ Some t → (x ≡ Root) × (t ≡ r)
  only-root Root t nx h = (refl, let e = root_at k r in cc)
  only-root (Mid a) t nx h = absurd (let none = is.tables (Mid a) nx (λ e. cc) in cc)
  only-root (Low a b) t nx h = absurd (let none = is.tables (Low a b) nx (λ e. cc) in cc)

pub IsPaged-new : (m : Ram) (r : ℕ) (s n : Frames) → IsFreeList m s → free_of m s ≡ r ∷ free_of m n → IsFreeList m n
    → (k : Ram) → k ≡ slice_set m r (replicate 4096 0) → extra_of n ≡ extra_of s
    → IsPaged k r n × IsEmpty k r × (free_of m s ≡ r ∷ free_of k n)
IsPaged-new m r s n is taken after k e table =
    let first = free-first is r (free_of m n) taken in
    let len : length k ≡ length m = rw e (length-set m r (replicate {A = ℕ} 4096 0)) in
    let others : (g : ℕ) → g ≢ r
    → frame_of k g ≡ frame_of m g = λ g ne. rw e (get_or-set_other m r g (replicate {A = ℕ} 4096 0) [] ne) in
    let same : (g : ℕ) → among g (free_of m n) ≡ true
    → frame_of k g ≡ frame_of m g =
    λ g at. others g (λ f. cc (ap (λ x. among x (free_of m n)) f, at, first.1)) in
    let free : free_of k n ≡ free_of m n = free_of-same m k n same in
    let zero : (i : ℕ) → i < 512 → entry_of k r i ≡ 0 = λ i l. rw e (entry_of-zeros m r i first.0 l) in
    let empty = IsEmpty-zeros k r zero in
    let root = only-root empty in (
      record {
        tree = record {
          inside = λ x t nx h. rw ((root x t nx h).1) (omega arith);
          once = λ x y t nx ny hx hy. (root x t nx hx).0 ∙ sym (root y t ny hy).0;
          sound = λ x t i nx h small. rw ((root x t nx h).0, (root x t nx h).1, zero i small) (no_table refl);
        };
        free = IsFreeList-same m k n after len same;
        apart = λ x t nx h. rw ((root x t nx h).1, free) first.1;
        own = λ x t nx h. rw ((root x t nx h).1) (further-taken is n r (free_of m n) taken table);
      },
      empty,
      taken ∙ ap (λ l. r ∷ l) (sym free),
    )
