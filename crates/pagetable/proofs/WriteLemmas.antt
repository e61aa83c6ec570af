-- What writes leave of a page table: a leaf changes, or a table is added or removed.
use Rattle.frames.specs.declared.memory.Memory.{Memory}
use Rattle.pagetable.specs.Owned as owned
use Rattle.pagetable.proofs.Common.{Ram, [], among, among_first, among_first_not, ap, apart-not, arith, child_of}
use Rattle.pagetable.proofs.Common.{entry_of, extra_of, false, frame_of, Frames, free_count, free_of, free_of-same}
use Rattle.pagetable.proofs.Common.{further-free, further_at, get_or, inl, inr, IsFreeList, IsFreeList-same}
use Rattle.pagetable.proofs.Common.{IsLeafEntry, IsNode, IsPaged, IsUpper, Keeps, leaf_of, length, Links, List}
use Rattle.pagetable.proofs.Common.{lookup_of, low_node, ne_eqb, next_node, Node, None, Option, refl, SameBut, SameMap}
use Rattle.pagetable.proofs.Common.{SameTables, shared-is, Some, subst, sym, table_at, true, Writes, ℕ, ◌%◌, ◌+◌, ◌<◌}
use Rattle.pagetable.proofs.Common.{◌^◌, ◌∙◌, ◌∷◌, ◌≡◌, ◌≢◌, ◌⊎◌}
use Rattle.pagetable.proofs.TreeLemmas.{Changes, cases_node, child_of-table, child_of-zero, entry-kept, entry_of-frame}
use Rattle.pagetable.proofs.TreeLemmas.{entry_table, entry_zero, kept-tree, leaf_of-zero, looks, low_is_node, maps-same}
use Rattle.pagetable.proofs.TreeLemmas.{next, next_other, not_held, same_page, sound-kept, stays, table_at-next}
use Rattle.std.specs.List.{IsDistinct}

-- ---- free frames

pub further-same : (s n : Frames) (f : ℕ) → extra_of n ≡ extra_of s → further_at n f ≡ further_at s f
further-same s n f table = ap (λ (t : List ℕ × ℕ). get_or t.0 f 0) table

module _ {m : Ram} {s : Frames} (is : IsFreeList m s) where
  -- the first free frame is one of the memory, and not among the others
  pub free-first : (f : ℕ) (fs : List ℕ) → free_of m s ≡ f ∷ fs → (f < length m) × (among f fs ≡ false)
  unfolding IsDistinct
  free-first f fs e = (is.inside f (rw e (among_first f fs)), apart-not f fs ((rw e at is.distinct).0))

  pub further-taken : (n : Frames) (u : ℕ) (fs : List ℕ) → free_of m s ≡ u ∷ fs → extra_of n ≡ extra_of s
      → further_at n u ≡ 0
  further-taken n u fs e table = further-same s n u table ∙ further-free is u (ap (among u) e ∙ among_first u fs)

not_among : (f g : ℕ) (fs : List ℕ) → among f fs ≡ true → among g fs ≡ false → f ≢ g
not_among f g fs held out e = cc (rw e at held)

module _ {m k : Ram} {s n : Frames} {t c u : ℕ} (is : IsFreeList m s) (after : IsFreeList m n) (w : Links m k t c u)
  where
    pub free-link : free_of m s ≡ u ∷ free_of m n → among t (free_of m s) ≡ false
        → (free_of k n ≡ free_of m n) × IsFreeList k n
    free-link e out =
        let rest = free_of m n in
        let stays : (v : ℕ) → among v rest ≡ true → frame_of k v ≡ frame_of m v = λ v held.
        w.others v (not_among v t rest held (among_first_not t u rest (rw e at out)).1)
        (not_among v u rest held (free-first is u rest e).1) in
        (free_of-same m k n stays, IsFreeList-same m k n after w.count stays)

module _ {m k : Ram} {r : ℕ} {s : Frames} {t c e : ℕ} (is : IsPaged m r s) (w : Writes m k t c e) where
  pub free-write : (x : Node) → IsNode x → table_at m r x ≡ Some t → (free_of k s ≡ free_of m s) × IsFreeList k s
  free-write x nx at =
      let stays : (v : ℕ) → among v (free_of m s) ≡ true
      → frame_of k v ≡ frame_of m v =
      λ v held. w.others v (not_among v t (free_of m s) held (is.apart x t nx at)) in
      (free_of-same m k s stays, IsFreeList-same m k s is.free w.count stays)

-- j free frames are taken
pub free_count-taken : (m k : Ram) (s n : Frames) (j : ℕ) → length (free_of m s) ≡ j + length (free_of k n)
    → extra_of n ≡ extra_of s → IsFreeList k n → free_count m s ≡ j + free_count k n
free_count-taken m k s n j e table is = omega (arith, ap (λ (t : List ℕ × ℕ). t.1) table, shared-is n)

-- ---- a write to a table of the lowest level

pub record IsWritten (m k : Ram) (r : ℕ) (s : Frames) (page t e : ℕ) : Type 0 where
  pub paged : IsPaged m r s
  pub low : table_at m r (low_node page) ≡ Some t
  pub write : Writes m k t (page % 512) e

module _ {m k : Ram} {r page t e : ℕ} {s : Frames} (w : IsWritten m k r s page t e) where
  written : Changes m k r (low_node page) t (page % 512)
  written = record {
    tree = w.paged.tree;
    node = low_is_node page;
    at = w.low;
    count = w.write.count;
    entries = λ y v i ny h _ small apart. entry-kept k (page % 512) w.paged.tree (low_node page) (low_is_node page)
        w.low y v i ny h apart (w.write.beside i small) (w.write.others v);
    below = λ up. absurd up;
  }

  pub write-tables : SameTables m k r
  write-tables x nx = stays (low_node page) written x nx (λ up. absurd up)

  free-kept : (free_of k s ≡ free_of m s) × IsFreeList k s
  free-kept = free-write w.paged w.write (low_node page) (low_is_node page) w.low

  pub write-free : free_of k s ≡ free_of m s
  write-free = free-kept.0

  pub write-paged : IsLeafEntry (length m) e → IsPaged k r s
  write-paged leaf =
      let old : (x : Node) (v : ℕ) → IsNode x → table_at k r x ≡ Some v
      → table_at m r x ≡ Some v = λ x v nx h. sym (write-tables x nx) ∙ h in
      record {
        tree = kept-tree w.paged.tree w.write.count old
            (λ x v i nx h. sound-kept (low_node page) written (rw w.write.here leaf) x v i nx (old x v nx h)
            (λ up. absurd up));
        free = free-kept.1;
        apart = λ x v nx h. rw write-free (w.paged.apart x v nx (old x v nx h));
        own = λ x v nx h. w.paged.own x v nx (old x v nx h);
      }

  pub write-keeps : Keeps m k r s s
  write-keeps = record {
    count = w.write.count;
    others = λ v out free. w.write.others v (not_held out (low_node page) (low_is_node page) w.low);
    outside = λ v out free. (
      λ h. out
          (record {
            place = h.place;
            is_node = h.is_node;
            at_place = sym (write-tables h.place h.is_node)
                ∙ h.at_place;
          }),
      rw write-free free,
    );
  }

  pub write-changed : lookup_of k r page ≡ leaf_of e
  unfolding lookup_of
  write-changed = rw (write-tables (low_node page) (low_is_node page), w.low, w.write.here) refl

  pub write-others : page < 2 ^ 27 → (p : ℕ) → p < 2 ^ 27 → p ≢ page → lookup_of k r p ≡ lookup_of m r p
  write-others small p sp ne =
      looks (low_node page) written p (λ up. absurd up) (λ e h. ne (same_page p page sp small e h))

-- ---- a table is added or removed

-- the table after x is another one, and what is mapped stays
pub record Turns (m k : Ram) (r : ℕ) (s n : Frames) (x : Node) (c : ℕ) (o : Option ℕ) : Type 0 where
  pub paged : IsPaged k r n
  pub keeps : Keeps m k r s n
  pub same : SameMap m k r
  pub now : table_at k r (next_node x c) ≡ o
  pub beside : (y : Node) → IsNode y → y ≢ next_node x c → table_at k r y ≡ table_at m r y

module _ {m k l : Ram} {r : ℕ} {s q n : Frames} (one : Keeps m k r s q) (two : Keeps k l r q n) where
  pub Keeps-twice : Keeps m l r s n
  Keeps-twice = record {
    count = two.count ∙ one.count;
    others = λ v out free. let mid = one.outside v out free in two.others v mid.0 mid.1 ∙ one.others v out free;
    outside = λ v out free. let mid = one.outside v out free in two.outside v mid.0 mid.1;
  }

-- a change that keeps what others hold, and one after it
pub rewrites-changes : {m k : Memory} {r : ℕ} → owned.Rewrites m k r → owned.Changes m k r
rewrites-changes w = record { paged = w.paged; keeps = w.keeps; extra = ap extra_of w.holders }

pub changes-twice : {m k l : Memory} {r : ℕ} → owned.Changes m k r → owned.Changes k l r → owned.Changes m l r
changes-twice one two =
    record { paged = two.paged; keeps = Keeps-twice one.keeps two.keeps; extra = two.extra ∙ one.extra }

-- an empty table in the first free frame u, to which entry c of the table t at x leads now
pub record Attaches (m k : Ram) (r : ℕ) (s n : Frames) (x : Node) (t c u : ℕ) : Type 0 where
  pub paged : IsPaged m r s
  pub node : IsNode x
  pub upper : IsUpper x
  pub at : table_at m r x ≡ Some t
  pub none : table_at m r (next_node x c) ≡ None
  pub links : Links m k t c u
  pub taken : free_of m s ≡ u ∷ free_of k n
  pub valid : IsFreeList k n
  pub extra : extra_of n ≡ extra_of s

module _ {m k : Ram} {r t c u : ℕ} {s n : Frames} {x : Node} (w : Attaches m k r s n x t c u) where
  new : (y : Node) (v : ℕ) → IsNode y → table_at m r y ≡ Some v → v ≢ u
  new y v ny h e = cc (w.paged.apart y v ny h, ap (among u) w.taken, among_first u (free_of k n))

  linked : Changes m k r x t c
  linked =
      let before : child_of (entry_of m t c) ≡ None = sym (table_at-next m r x t c w.upper w.at) ∙ w.none in
      record {
        tree = w.paged.tree;
        node = w.node;
        at = w.at;
        count = w.links.count;
        entries = λ y v i ny h _ small apart. entry-kept k c w.paged.tree x w.node w.at y v i ny h apart
            (w.links.beside i small) (λ ne. w.links.others v ne (new y v ny h));
        below = λ _ b small. rw (w.links.here, child_of-table u, before, w.links.fresh b small) child_of-zero;
      }

  link-now : table_at k r (next_node x c) ≡ Some u
  link-now = next x linked w.upper ∙ ap child_of w.links.here ∙ child_of-table u

  -- a table at a node is the new one, or was there
  link-cases : (y : Node) (v : ℕ) → IsNode y → table_at k r y ≡ Some v
      → ((y ≡ next_node x c) × (v ≡ u)) ⊎ ((y ≢ next_node x c) × (table_at m r y ≡ Some v))
  link-cases y v ny h = elim (cases_node y (next_node x c)) [
    | inl same ↦ inl (same, let at : table_at k r y ≡ Some u = rw same link-now in cc)
    | inr other ↦ inr (other, sym (stays x linked y ny (λ _. other)) ∙ h)
  ]

  -- what holds of the new one and of those that were there holds of all
  link-each : (P : ℕ → Type 0) → P u → ((y : Node) (v : ℕ) → IsNode y → table_at m r y ≡ Some v → P v)
      → (y : Node) (v : ℕ) → IsNode y → table_at k r y ≡ Some v → P v
  link-each P fresh old y v ny h =
      elim (link-cases y v ny h) [ inl is ↦ subst P (sym is.1) fresh | inr was ↦ old y v ny was.1 ]

  pub attached : Turns m k r s n x c (Some u)
  attached =
      let first = free-first w.paged.free u (free_of k n) w.taken in
      let split : (v : ℕ) → among v (free_of m s) ≡ false
      → (v ≢ u) × (among v (free_of k n) ≡ false) =
      λ v h. among_first_not v u (free_of k n) (rw w.taken at h) in
      record {
        paged = record {
          tree = record {
            inside = link-each (λ v. v < length k) (rw w.links.count first.0)
                (λ y v ny h. rw w.links.count (w.paged.tree.inside y v ny h));
            once = λ y z v ny nz hy hz. elim (link-cases y v ny hy) [
              | inl fresh ↦ elim (link-cases z v nz hz)
                  [ inl again ↦ fresh.0 ∙ sym again.0 | inr old ↦ absurd (new z v nz old.1 fresh.1) ]
              | inr old ↦ elim (link-cases z v nz hz) [
                | inl fresh ↦ absurd (new y v ny old.1 fresh.1)
                | inr older ↦ w.paged.tree.once y z v ny nz old.1
                    older.1
              ]
            ];
            sound = λ y v i ny h small. elim (link-cases y v ny h) [
              | inl fresh ↦ rw (fresh.1, w.links.fresh i small) (entry_zero (length k) y)
              | inr old ↦ sound-kept x linked (rw w.links.here (entry_table (length m) x u w.upper first.0)) y v i ny
                  old.1 (λ _. old.0) small
            ];
          };
          free = w.valid;
          apart = link-each (λ v. among v (free_of k n) ≡ false) first.1
              (λ y v ny h. (split v (w.paged.apart y v ny h)).1);
          own = link-each (λ v. further_at n v ≡ 0) (further-taken w.paged.free n u (free_of k n) w.taken w.extra)
              (λ y v ny h. further-same s n v w.extra ∙ w.paged.own y v ny h);
        };
        keeps = record {
          count = w.links.count;
          others = λ v out free. w.links.others v (not_held out x w.node w.at) (split v free).0;
          outside = λ v out free. (
            λ h. elim (link-cases h.place v h.is_node h.at_place)
                [ inl fresh ↦ (split v free).0 fresh.1 | inr old ↦ not_held out h.place h.is_node old.1 refl ],
            (split v free).1,
          );
        };
        same = maps-same x linked w.upper (λ i small. rw (link-now, w.none, w.links.fresh i small) leaf_of-zero);
        now = link-now;
        beside = λ y ny ne. stays x linked y ny (λ _. ne);
      }

-- the table u, to which entry c of the table t at x leads, maps nothing: the entry is cleared, and its frame is given
-- back
pub record Detaches (m k l : Ram) (r : ℕ) (s n : Frames) (x : Node) (t c u : ℕ) : Type 0 where
  pub paged : IsPaged m r s
  pub node : IsNode x
  pub upper : IsUpper x
  pub after : IsNode (next_node x c)
  pub at : table_at m r x ≡ Some t
  pub there : table_at m r (next_node x c) ≡ Some u
  pub empty : (i : ℕ) → i < 512 → entry_of m u i ≡ 0
  pub clears : Writes m k t c 0
  pub gives : SameBut (u ∷ []) k l
  pub given : free_of l n ≡ u ∷ free_of m s
  pub valid : IsFreeList l n
  pub extra : extra_of n ≡ extra_of s

module _ {m k l : Ram} {r t c u : ℕ} {s n : Frames} {x : Node} (w : Detaches m k l r s n x t c u) where
  away : (y : Node) (v : ℕ) → IsNode y → table_at m r y ≡ Some v → y ≢ next_node x c → v ≢ u
  away y v ny h ne e = ne (w.paged.tree.once y (next_node x c) u ny w.after (rw (← e) h) w.there)

  given-kept : (v : ℕ) → v ≢ u → frame_of l v ≡ frame_of k v
  given-kept v ne = w.gives.others v (rw (ne_eqb v u ne) refl)

  table-kept : (i : ℕ) → entry_of l t i ≡ entry_of k t i
  table-kept i = entry_of-frame k l t i (given-kept t (away x t w.node w.at (next_other x c w.upper)))

  cleared : entry_of l t c ≡ 0
  cleared = table-kept c ∙ w.clears.here

  unlinked : Changes m l r x t c
  unlinked =
      let before : child_of (entry_of m t c) ≡ Some u = sym (table_at-next m r x t c w.upper w.at) ∙ w.there in
      record {
        tree = w.paged.tree;
        node = w.node;
        at = w.at;
        count = w.gives.count ∙ w.clears.count;
        entries = λ y v i ny h other small apart. entry-kept l c w.paged.tree x w.node w.at y v i ny h apart
            (λ ne. table-kept i ∙ w.clears.beside i small ne)
            (λ ne. given-kept v (away y v ny h (other w.upper)) ∙ w.clears.others v ne);
        below = λ _ b small. rw (cleared, child_of-zero, before, w.empty b small) (sym child_of-zero);
      }

  gone : table_at l r (next_node x c) ≡ None
  gone = next x unlinked w.upper ∙ ap child_of cleared ∙ child_of-zero

  -- a table that stays was there, and is not the one that was removed
  stood : (y : Node) (v : ℕ) → IsNode y → table_at l r y ≡ Some v → (y ≢ next_node x c) × (table_at m r y ≡ Some v)
  stood y v ny h = elim (cases_node y (next_node x c)) [
    | inl same ↦ absurd (let none : table_at l r y ≡ None = rw same gone in cc)
    | inr other ↦ (other, sym (stays x unlinked y ny (λ _. other)) ∙ h)
  ]

  pub detached : Turns m l r s n x c None
  detached = record {
    paged = record {
      tree = kept-tree w.paged.tree unlinked.count (λ y v ny h. (stood y v ny h).1)
          (λ y v i ny h. let old = stood y v ny h
          in sound-kept x unlinked (rw cleared (entry_zero (length m) x)) y v i ny old.1 (λ _. old.0));
      free = w.valid;
      apart = λ y v ny h. let old =
          stood y v ny h in rw (w.given, ne_eqb v u (away y v ny old.1 old.0)) (w.paged.apart y v ny old.1);
      own = λ y v ny h. further-same s n v w.extra ∙ w.paged.own y v ny (stood y v ny h).1;
    };
    keeps = record {
      count = unlinked.count;
      others = λ v out free. given-kept v (not_held out (next_node x c) w.after w.there)
          ∙ w.clears.others v (not_held out x w.node w.at);
      outside = λ v out free. (
        λ h. not_held out h.place h.is_node (stood h.place v h.is_node h.at_place).1 refl,
        rw (w.given, ne_eqb v u (not_held out (next_node x c) w.after w.there)) free,
      );
    };
    same = maps-same x unlinked w.upper (λ i small. rw (gone, w.there, w.empty i small) (sym leaf_of-zero));
    now = gone;
    beside = λ y ny ne. stays x unlinked y ny (λ _. ne);
  }
