-- Lemmas on page tables: entries, nodes, the way down to a page, and tables that stay.
use Rattle.pagetable.proofs.Common.{Ram, [], a_table, ap, arith, base, cases_eq, cases_lt, child_at, child_of, entry_of}
use Rattle.pagetable.proofs.Common.{frame_of, get_or-set_other, HasTable, inl, inr, IsEntry, IsLeafEntry, IsMemory}
use Rattle.pagetable.proofs.Common.{IsNode, IsTree, IsUpper, leaf_at, leaf_entry, leaf_of, length, length-set, Links}
use Rattle.pagetable.proofs.Common.{lookup_of, Low, low_node, Mid, mid_node, missing, missing_by, ne_eqb, next_node}
use Rattle.pagetable.proofs.Common.{no_leaf, no_table, Node, None, Option, put, refl, replicate, Root, SameMap}
use Rattle.pagetable.proofs.Common.{SameTables, slice_set, Some, subst, sym, table_at, table_entry, true, word_bytes}
use Rattle.pagetable.proofs.Common.{Writes, ℕ, ◌%◌, ◌*◌, ◌-◌, ◌/◌, ◌<◌, ◌^◌, ◌∙◌, ◌≡◌, ◌≢◌, ◌⊎◌}
use Rattle.ram.proofs.MemoryLemmas.{frame_of-put_other, IsMemory-set, length-put, length-word_bytes, word_of-frame}
use Rattle.ram.proofs.MemoryLemmas.{word_of-put_beside, word_of-put_same, word_of-zeros}
use Rattle.std.proofs.lemmas.List.{length-replicate}
use Rattle.std.specs.Option.{is_some}
use Rattle.std.proofs.Math.Nat.{div-div-eq-div-mul}

-- ---- entries

pub entry_of-frame : (m k : Ram) (t i : ℕ) → frame_of k t ≡ frame_of m t → entry_of k t i ≡ entry_of m t i
unfolding entry_of
entry_of-frame m k t i e = word_of-frame k m t t (8 * i) 8 e

pub entry_of-zeros : (m : Ram) (u i : ℕ) → u < length m → i < 512 → entry_of (slice_set m u (replicate 4096 0)) u i ≡ 0
unfolding entry_of
entry_of-zeros m u i h small = word_of-zeros m u (8 * i) 8 4096 h

pub child_of-zero : child_of 0 ≡ None
unfolding child_of
child_of-zero = refl

pub child_of-some : (e : ℕ) → e ≢ 0 → child_of e ≡ Some (e / 1024 - base)
unfolding child_of
child_of-some e ne = rw (ne_eqb _ _ ne) refl

pub child_of-table : (t : ℕ) → child_of (table_entry t) ≡ Some t
child_of-table t = child_of-some (table_entry t) (omega arith) ∙ ap Some (omega arith)

pub leaf_of-zero : leaf_of 0 ≡ None
unfolding leaf_of
leaf_of-zero = refl

pub leaf_of-some : (e : ℕ) → e ≢ 0 → leaf_of e ≡ Some (e / 1024 - base, e % 1024)
unfolding leaf_of
leaf_of-some e ne = rw (ne_eqb _ _ ne) refl

pub leaf_of-leaf : (f marks : ℕ) → marks < 1024 → leaf_of (leaf_entry f marks) ≡ Some (f, marks)
leaf_of-leaf f marks small =
    let frame : leaf_entry f marks / 1024 - base ≡ f = omega arith in
    let rest : leaf_entry f marks % 1024 ≡ marks = omega arith in
    leaf_of-some (leaf_entry f marks) (omega arith) ∙ rw (frame, rest) refl

pub entry_zero : (n : ℕ) (y : Node) → IsEntry n y 0
entry_zero n Root = no_table refl
entry_zero n (Mid a) = no_table refl
entry_zero n (Low a b) = no_leaf refl

pub entry_table : (n : ℕ) (x : Node) (u : ℕ) → IsUpper x → u < n → IsEntry n x (table_entry u)
entry_table n Root u up h = a_table u h refl
entry_table n (Mid a) u up h = a_table u h refl
entry_table n (Low a b) u up h = absurd up

-- ---- the writes of the code

pub Writes-put : (m : Ram) (t c e : ℕ) → IsMemory m → t < length m → c < 512 → e < 2 ^ 64
    → Writes m (put m t (8 * c) (word_bytes 8 e)) t c e
unfolding entry_of
Writes-put m t c e mem inside small fits = record {
  count = length-put m t (8 * c) (word_bytes 8 e);
  here = word_of-put_same m t (8 * c) 8 e mem inside (omega arith) fits;
  beside = λ i h ne. word_of-put_beside m t (8 * c) (word_bytes 8 e) (8 * i) 8 mem inside
      (omega (arith, length-word_bytes 8 e))
      (rw length-word_bytes (elim (cases_lt i c) [ inl below ↦ inl (omega arith) | inr above ↦ inr (omega arith) ]));
  others = λ v ne. frame_of-put_other m t (8 * c) (word_bytes 8 e) v ne;
}

pub Links-put : (m : Ram) (t c u : ℕ) → IsMemory m → t < length m → u < length m → t ≢ u → c < 512 → u < 2 ^ 32
    → Links m (put (slice_set m u (replicate 4096 0)) t (8 * c) (word_bytes 8 (table_entry u))) t c u
Links-put m t c u mem ht hu ne small fits =
    let zeros = replicate {A = ℕ} 4096 0 in
    let z = slice_set m u zeros in
    let len : length z ≡ length m = length-set m u zeros in
    let rest : (v : ℕ) → v ≢ u → frame_of z v ≡ frame_of m v = λ v h. get_or-set_other m u v zeros [] h in
    let w = Writes-put z t c (table_entry u) (IsMemory-set m u zeros mem (length-replicate {A = ℕ} 4096 0))
    (omega arith) small (omega arith) in
    record {
      count = w.count ∙ len;
      here = w.here;
      beside = λ i h out. w.beside i h out ∙ entry_of-frame m z t i (rest t ne);
      fresh = λ i h. entry_of-frame z _ u i (w.others u (λ e. ne (sym e))) ∙ entry_of-zeros m u i hu h;
      others = λ v nt nu. w.others v nt ∙ rest v nu;
    }

-- ---- nodes

pub cases_node : (x y : Node) → (x ≡ y) ⊎ (x ≢ y)
cases_node Root Root = inl refl
cases_node (Mid a) (Mid c) = elim (cases_eq a c) [ inl e ↦ inl (ap Mid e) | inr ne ↦ inr (λ e. ne cc) ]
cases_node (Low a b) (Low c d) =
    elim (cases_eq a c) [
      | inl e ↦ elim (cases_eq b d) [ inl f ↦ inl cc | inr ne ↦ inr (λ g. ne cc) ]
      | inr ne ↦ inr (λ g. ne cc)
    ]
cases_node _ _ = inr (λ e. cc)

pub next_other : (x : Node) (c : ℕ) → IsUpper x → x ≢ next_node x c
next_other Root c up e = cc
next_other (Mid d) c up e = cc
next_other (Low a b) c up e = up

pub mid_is_node : (page : ℕ) → page / 262144 % 512 < 512
mid_is_node page = omega arith

pub low_is_node : (page : ℕ) → IsNode (low_node page)
low_is_node page = (omega arith, omega arith)

-- pages with the same three indices are one
pub same_page : (p q : ℕ) → p < 2 ^ 27 → q < 2 ^ 27 → low_node p ≡ low_node q → p % 512 ≡ q % 512 → p ≡ q
same_page p q sp sq same low =
    let split : (n : ℕ) → n / 262144 ≡ n / 512 / 512 = λ n. sym (div-div-eq-div-mul n 512 512) in
    let high : p / 262144 % 512 ≡ q / 262144 % 512 = cc in
    let mid : p / 512 % 512 ≡ q / 512 % 512 = cc in
    omega (arith, split p, split q)

-- ---- the way down to a page

pub root_at : (m : Ram) (r : ℕ) → table_at m r Root ≡ Some r
unfolding table_at
root_at m r = refl

pub table_at-mid : (m : Ram) (r page : ℕ) → table_at m r (mid_node page) ≡ child_of (entry_of m r (page / 262144 % 512))
unfolding table_at
table_at-mid m r page = refl

pub table_at-low : (m : Ram) (r page : ℕ) {o : Option ℕ} → o ≡ table_at m r (mid_node page)
    → table_at m r (low_node page) ≡ child_at m o (page / 512 % 512)
unfolding table_at
table_at-low m r page at = ap (λ x. child_at m x (page / 512 % 512)) (sym at)

pub lookup_of-low : (m : Ram) (r page : ℕ) {o : Option ℕ} → o ≡ table_at m r (low_node page)
    → lookup_of m r page ≡ leaf_at m o (page % 512)
unfolding lookup_of
lookup_of-low m r page at = ap (λ x. leaf_at m x (page % 512)) (sym at)

pub some-unless_none : {A : Type 0} (o : Option A) → (o ≡ None → ⊥) → is_some o ≡ true
some-unless_none None none = absurd (none refl)
some-unless_none (Some _) none = refl

module _ {m : Ram} {r : ℕ} (is : IsTree m r) where
  pub tree-root : r < length m
  tree-root = is.inside Root r tt (root_at m r)

  pub tree-leaf_sound : (page : ℕ) {t : ℕ} → Some t ≡ table_at m r (low_node page)
      → IsLeafEntry (length m) (entry_of m t (page % 512))
  tree-leaf_sound page {t} at = is.sound (low_node page) t (page % 512) (low_is_node page) (sym at) (omega arith)

-- a tree with no middle table on the way has no low one
pub no_low : (m : Ram) (r page : ℕ) → table_at m r (mid_node page) ≡ None → table_at m r (low_node page) ≡ None
no_low m r page none = table_at-low m r page (sym none)

pub missing-is : (m : Ram) (r page : ℕ) {o q : Option ℕ} → o ≡ table_at m r (mid_node page)
    → q ≡ table_at m r (low_node page) → missing m r page ≡ missing_by o q
unfolding missing
missing-is m r page e f = rw (← e, ← f) refl

-- ---- tables that stay

-- what an entry leads to is at the node after x
pub table_at-next : (m : Ram) (r : ℕ) (x : Node) (t c : ℕ) → IsUpper x → table_at m r x ≡ Some t
    → table_at m r (next_node x c) ≡ child_of (entry_of m t c)
unfolding table_at
table_at-next m r Root t c up at = let root : r ≡ t = cc in rw root refl
table_at-next m r (Mid d) t c up at = ap (λ o. child_at m o c) at
table_at-next m r (Low d e) t c up at = absurd up

pub child_at-same : (m k : Ram) (o : Option ℕ) (b : ℕ) → ((v : ℕ) → o ≡ Some v → entry_of k v b ≡ entry_of m v b)
    → child_at k o b ≡ child_at m o b
child_at-same m k None b h = refl
child_at-same m k (Some v) b h = ap child_of (h v refl)

pub leaf_at-same : (m k : Ram) (o : Option ℕ) (i : ℕ) → ((v : ℕ) → o ≡ Some v → entry_of k v i ≡ entry_of m v i)
    → leaf_at k o i ≡ leaf_at m o i
leaf_at-same m k None i h = refl
leaf_at-same m k (Some v) i h = ap leaf_of (h v refl)

-- a tree whose tables are where they were, with sound entries, is a tree
pub kept-tree : {m k : Ram} {r : ℕ} → IsTree m r → length k ≡ length m
    → ((y : Node) (v : ℕ) → IsNode y → table_at k r y ≡ Some v → table_at m r y ≡ Some v)
    → ((y : Node) (v i : ℕ) → IsNode y → table_at k r y ≡ Some v → i < 512 → IsEntry (length k) y (entry_of k v i))
    → IsTree k r
kept-tree is count old sound = record {
  inside = λ y v ny h. rw count (is.inside y v ny (old y v ny h));
  once = λ y z v ny nz hy hz. is.once y z v ny nz (old y v ny hy) (old z v nz hz);
  sound = sound;
}

pub not_held : {m : Ram} {r v t : ℕ} → ¬ HasTable m r v → (x : Node) → IsNode x → table_at m r x ≡ Some t → v ≢ t
not_held out x nx at e = out (record { place = x; is_node = nx; at_place = rw e at })

-- ---- a tree of which one entry changes

-- Entry c of the table t at x is another one, and so may be the table after x.
pub record Changes (m k : Ram) (r : ℕ) (x : Node) (t c : ℕ) : Type 0 where
  pub tree : IsTree m r
  pub node : IsNode x
  pub at : table_at m r x ≡ Some t
  pub count : length k ≡ length m
  pub entries : (y : Node) (v i : ℕ) → IsNode y → table_at m r y ≡ Some v → (IsUpper x → y ≢ next_node x c) → i < 512
      → (y ≡ x → i ≢ c) → entry_of k v i ≡ entry_of m v i
  pub below : IsUpper x → (b : ℕ) → b < 512
      → child_at k (child_of (entry_of k t c)) b ≡ child_at m (child_of (entry_of m t c)) b

-- what keeps the other entries of the table and the other frames keeps the other entries of the tree
pub entry-kept : {m : Ram} {r t : ℕ} (k : Ram) (c : ℕ) → IsTree m r → (x : Node) → IsNode x → table_at m r x ≡ Some t
    → (y : Node) (v i : ℕ) → IsNode y → table_at m r y ≡ Some v → (y ≡ x → i ≢ c)
    → (i ≢ c → entry_of k t i ≡ entry_of m t i) → (v ≢ t → frame_of k v ≡ frame_of m v)
    → entry_of k v i ≡ entry_of m v i
entry-kept {m} {r} {t} k c is x nx at y v i ny h apart here others = elim (cases_eq v t) [
  | inl same ↦ rw same (here (apart (is.once y x t ny nx (rw (← same) h) at)))
  | inr other ↦ entry_of-frame m k v i (others other)
]

module _ {m k : Ram} {r t c : ℕ} where
  -- other tables stay
  pub stays : (x : Node) → Changes m k r x t c → (y : Node) → IsNode y → (IsUpper x → y ≢ next_node x c)
      → table_at k r y ≡ table_at m r y
  unfolding table_at
  stays x ch Root ny ne = refl
  stays Root ch (Mid a) ny ne = ap child_of (ch.entries Root r a tt refl (λ _ e. cc) ny (λ _ e. ne tt (ap Mid e)))
  stays Root ch (Low a b) ny ne =
      elim (cases_eq a c) [
        | inl same ↦ let root : r ≡ t = let at = ch.at in cc in rw (same, root) (ch.below tt b ny.1)
        | inr other ↦
            ap (λ o. child_at k (child_of o) b) (ch.entries Root r a tt refl (λ _ e. cc) ny.0 (λ _. other))
            ∙ child_at-same m k (child_of (entry_of m r a)) b
            (λ v g. ch.entries (Mid a) v b ny.0 g (λ _ e. other cc) ny.1 (λ e f. cc))
      ]
  stays (Mid d) ch (Mid a) ny ne = ap child_of (ch.entries Root r a tt refl (λ _ e. cc) ny (λ e f. cc))
  stays (Mid d) ch (Low a b) ny ne =
      ap (λ o. child_at k (child_of o) b) (ch.entries Root r a tt refl (λ _ e. cc) ny.0 (λ e f. cc))
      ∙ child_at-same m k (child_of (entry_of m r a)) b
      (λ v g. ch.entries (Mid a) v b ny.0 g (λ _ e. cc) ny.1 (λ e f. ne tt cc))
  stays (Low d e) ch (Mid a) ny ne = ap child_of (ch.entries Root r a tt refl (λ up. absurd up) ny (λ e f. cc))
  stays (Low d e) ch (Low a b) ny ne =
      ap (λ o. child_at k (child_of o) b) (ch.entries Root r a tt refl (λ up. absurd up) ny.0 (λ e f. cc))
      ∙ child_at-same m k (child_of (entry_of m r a)) b
      (λ v g. ch.entries (Mid a) v b ny.0 g (λ up. absurd up) ny.1 (λ e f. cc))

  pub next : (x : Node) → Changes m k r x t c → IsUpper x → table_at k r (next_node x c) ≡ child_of (entry_of k t c)
  next x ch up = table_at-next k r x t c up (stays x ch x ch.node (λ _. next_other x c up) ∙ ch.at)

  -- what other tables map stays
  pub looks : (x : Node) → Changes m k r x t c → (p : ℕ) → (IsUpper x → low_node p ≢ next_node x c)
      → (low_node p ≡ x → p % 512 ≢ c) → lookup_of k r p ≡ lookup_of m r p
  unfolding lookup_of
  looks x ch p other apart =
      ap (λ o. leaf_at k o (p % 512)) (stays x ch (low_node p) (low_is_node p) other)
      ∙ leaf_at-same m k (table_at m r (low_node p)) (p % 512)
      (λ v g. ch.entries (low_node p) v (p % 512) (low_is_node p) g other (omega arith) apart)

  -- so does what all map, if what the one after x maps does
  pub maps-same : (x : Node) → Changes m k r x t c → IsUpper x
      → ((i : ℕ) → i < 512 → leaf_at k (table_at k r (next_node x c)) i ≡ leaf_at m (table_at m r (next_node x c)) i)
      → SameMap m k r
  unfolding lookup_of
  maps-same x ch up here p = elim (cases_node (low_node p) (next_node x c)) [
    | inl same ↦ rw same (here (p % 512) (omega arith))
    | inr other ↦ looks x ch p (λ _. other) (λ e _. subst IsUpper (sym e) up)
  ]

  pub sound-kept : (x : Node) → Changes m k r x t c → IsEntry (length m) x (entry_of k t c) → (y : Node) (v i : ℕ)
      → IsNode y → table_at m r y ≡ Some v → (IsUpper x → y ≢ next_node x c) → i < 512
      → IsEntry (length k) y (entry_of k v i)
  sound-kept x ch good y v i ny h other small = rw ch.count (elim (cases_node y x) [
    | inl same ↦ elim (cases_eq i c) [
      | inl here ↦ let e : v ≡ t = cc in rw (same, e, here) good
      | inr beside ↦ rw (ch.entries y v i ny h other small (λ _. beside)) (ch.tree.sound y v i ny h small)
    ]
    | inr apart ↦ rw (ch.entries y v i ny h other small (λ e. absurd (apart e))) (ch.tree.sound y v i ny h small)
  ])

-- ---- a page table stays intact whatever is done beside it

-- the tables keep their bytes
abbrev pub KeepsTables : Ram → Ram → ℕ → Type 0
KeepsTables m k r = (v : ℕ) → HasTable m r v → frame_of k v ≡ frame_of m v

held_at : (m : Ram) (r : ℕ) (x : Node) (v : ℕ) → IsNode x → table_at m r x ≡ Some v → HasTable m r v
held_at m r x v nx at = record { place = x; is_node = nx; at_place = at }

module _ (m k : Ram) (r : ℕ) (same : KeepsTables m k r) where
  pub table_at-same : SameTables m k r
  unfolding table_at
  table_at-same Root nx = refl
  table_at-same (Mid a) nx = ap child_of (entry_of-frame m k r a (same r (held_at m r Root r tt refl)))
  table_at-same (Low a b) nx =
      ap (λ o. child_at k (child_of o) b) (entry_of-frame m k r a (same r (held_at m r Root r tt refl)))
      ∙ child_at-same m k (child_of (entry_of m r a)) b
      (λ v g. entry_of-frame m k v b (same v (held_at m r (Mid a) v nx.0 g)))

  pub IsTree-same : IsTree m r → length k ≡ length m → IsTree k r
  IsTree-same is len =
      let old : (x : Node) (t : ℕ) → IsNode x → table_at k r x ≡ Some t
      → table_at m r x ≡ Some t = λ x t nx h. sym (table_at-same x nx) ∙ h in
      kept-tree is len old (λ x t i nx h small. rw
      (len, entry_of-frame m k t i (same t (held_at m r x t nx (old x t nx h))))
      (is.sound x t i nx (old x t nx h) small))

  pub lookup_of-same : (page : ℕ) → lookup_of k r page ≡ lookup_of m r page
  unfolding lookup_of
  lookup_of-same page =
      ap (λ o. leaf_at k o (page % 512)) (table_at-same (low_node page) (low_is_node page))
      ∙ leaf_at-same m k (table_at m r (low_node page)) (page % 512)
      (λ v g. entry_of-frame m k v (page % 512) (same v (held_at m r (low_node page) v (low_is_node page) g)))
