-- Lemmas on what `specs/Agree` defines.
use Rattle.pagetable.proofs.Common.{Ram, Access, allows, allows-is, ap, arith, leaf_allows, marks_of, sym, ℕ, ◌%◌, ◌<◌}
use Rattle.pagetable.proofs.Common.{◌∙◌, ◌≡◌, a_leaf, a_table, and_assoc, base, bit_and, Bool, canonical-is, child_at}
use Rattle.pagetable.proofs.Common.{child_of, div-mul-add, entry_of, eq-eqb, eqb-true, false, follow, frame_at, has}
use Rattle.pagetable.proofs.Common.{is_canonical, is_sound, is_table, IsLeafEntry, IsLeafMarks, IsTableEntry, IsTree}
use Rattle.pagetable.proofs.Common.{le-leb, leaf_at, leaf_entry, leaf_of, leb, length, lookup_of, low_node, lt-ltb, ltb}
use Rattle.pagetable.proofs.Common.{mid_node, mod-mul-add, no_leaf, no_table, None, number_of, Option, refl, Root, Some}
use Rattle.pagetable.proofs.Common.{table_at, table_entry, then_at, true, turn_by, turn_of, walk_high, walk_low}
use Rattle.pagetable.proofs.Common.{walk_mid, walk_of, walk_of-is, walk_page, ◌*◌, ◌+◌, ◌-◌, ◌/◌, ◌^◌, ◌≤◌, unwrap_or}
use Rattle.std.specs.Prelude.{if◌then◌else◌}
use Rattle.std.proofs.Math.Bool.{or-true}
use Rattle.unixmodel.specs.Translation.{is_canonical as is_canonical_page}
use Rattle.pagetable.specs.Agree.{given_frame, translation}
use Rattle.std.proofs.lemmas.Option.{none-some}
use Rattle.std.specs.Option.{option_map}
use Rattle.pagetable.proofs.TreeLemmas.{child_of-table, child_of-zero, leaf_of-leaf, leaf_of-zero, lookup_of-low}
use Rattle.pagetable.proofs.TreeLemmas.{mid_is_node, root_at, table_at-low, table_at-mid, tree-leaf_sound, tree-root}

-- ---- lemmas on what `specs/Marks` defines

-- the walk's test of a leaf's marks is the model's
pub allows-marks : (marks : ℕ) (access : Access) → marks < 1024 → allows marks access ≡ leaf_allows access marks
unfolding marks_of
allows-marks marks access h =
    let same : marks % 1024 ≡ marks = omega arith in
    ap (λ x. allows x access) (sym same) ∙ allows-is marks access

turn_of-zero : (span : ℕ) (a : Access) → turn_of 0 span a ≡ turn_by false true true true 0
unfolding is_sound marks_of
turn_of-zero span a = refl

marks_of-entry : (n marks : ℕ) → marks < 1024 → marks_of (n * 1024 + marks) ≡ marks
unfolding marks_of
marks_of-entry n marks h = mod-mul-add n 1024 marks h

number_of-entry : (n marks : ℕ) → marks < 1024 → n < 2 ^ 44 → number_of (n * 1024 + marks) ≡ n
unfolding number_of
number_of-entry n marks h small =
    let top : (n * 1024 + marks) / 1024 ≡ n = div-mul-add n 1024 marks h in
    rw top (omega arith)

high-entry : (n marks : ℕ) → marks < 1024 → n < 2 ^ 44 → (n * 1024 + marks) / 2 ^ 54 ≡ 0
high-entry n marks h small = omega arith

turn_of-table : (t n span : ℕ) (a : Access) → t < n → n ≤ 32768
    → turn_of (table_entry t) span a ≡ turn_by true true true true (base + t)
unfolding is_sound is_table
turn_of-table t n span a h small =
    rw (
      number_of-entry (base + t) 1 (omega arith) (omega arith),
      marks_of-entry (base + t) 1 (omega arith),
      high-entry (base + t) 1 (omega arith) (omega arith),
    ) refl

part_of : (marks bits : ℕ) → has marks 3 ≡ true → bit_and 3 bits ≡ bits → has marks bits ≡ true
part_of marks bits h low =
    let whole : bit_and marks 3 ≡ 3 = eqb-true (bit_and marks 3) 3 h in
    eq-eqb (bit_and marks bits) bits
    (ap (bit_and marks) (sym low) ∙ sym (and_assoc bits marks 3) ∙ ap (λ x. bit_and x bits) whole ∙ low)

turn_of-leaf : (f n marks : ℕ) (a : Access) → f < n → n ≤ 32768 → IsLeafMarks marks
    → turn_of (leaf_entry f marks) 1 a ≡ turn_by true false (allows marks a) true (base + f)
unfolding is_sound is_table
turn_of-leaf f n marks a h small good =
    let valid : has marks 1 ≡ true = part_of marks 1 good.1 refl in
    let readable : has marks 2 ≡ true = part_of marks 2 good.1 refl in
    let whole : (base + f) % 1 ≡ 0 = omega arith in
    rw (
      number_of-entry (base + f) marks good.0 (omega arith),
      marks_of-entry (base + f) marks good.0,
      high-entry (base + f) marks good.0 (omega arith),
      valid,
      readable,
      whole,
      or-true,
    ) refl

frame_at-base : (n t : ℕ) → t < n → frame_at n (base + t) ≡ Some t
frame_at-base n t h =
    let low : leb base (base + t) ≡ true = le-leb base (base + t) (omega arith) in
    let high : ltb (base + t) (base + n) ≡ true = lt-ltb (base + t) (base + n) (omega arith) in
    let rest : base + t - base ≡ t = omega arith in
    rw (low, high, rest) refl

leaf_turn : (m : Ram) (page f : ℕ) (b : Bool) → f < length m
    → follow m 1 page (λ _. None) (turn_by true false b true (base + f)) ≡ (if b then Some f else None)
leaf_turn m page f true h =
    let same : base + f + page % 1 ≡ base + f = omega arith in
    rw same (frame_at-base (length m) f h)
leaf_turn m page f false h = refl

-- the last step
agree-leaf : (m : Ram) (page e : ℕ) (a : Access) → length m ≤ 32768 → IsLeafEntry (length m) e
    → follow m 1 page (λ _. None) (turn_of e 1 a) ≡ translation a (leaf_of e)
agree-leaf m page e a small (no_leaf z) = rw (z, turn_of-zero 1 a, leaf_of-zero) refl
agree-leaf m page e a small (a_leaf f marks h good is) =
    rw (is, turn_of-leaf f (length m) marks a h small good, leaf_of-leaf f marks good.0)
    (leaf_turn m page f (allows marks a) h ∙ ap (λ b. if b then Some f else None) (allows-marks marks a good.0))

-- a step before it
agree-table : (m : Ram) (span page e : ℕ) (a : Access) (next : ℕ → Option ℕ) → length m ≤ 32768
    → IsTableEntry (length m) e → follow m span page next (turn_of e span a) ≡ then_at (child_of e) next
agree-table m span page e a next small (no_table z) = rw (z, turn_of-zero span a, child_of-zero) refl
agree-table m span page e a next small (a_table t h is) =
    rw (is, turn_of-table t (length m) span a h small, child_of-table t)
    (ap (λ o. then_at o next) (frame_at-base (length m) t h))

-- and gives nothing at another
walk_of-beyond : (m : Ram) (r page : ℕ) (a : Access) → is_canonical page ≡ false → walk_of m r page a ≡ None
unfolding walk_of
walk_of-beyond m r page a e = rw e refl

module _ {m : Ram} {r : ℕ} (page : ℕ) (a : Access) (small : length m ≤ 32768) (is : IsTree m r) where
  agree-low : (t : ℕ) → Some t ≡ table_at m r (low_node page)
      → walk_low m page a t ≡ translation a (leaf_of (entry_of m t (page % 512)))
  unfolding walk_low
  agree-low t at =
      let whole : page / 1 ≡ page = omega arith in
      rw whole (agree-leaf m page (entry_of m t (page % 512)) a small (tree-leaf_sound is page at))

  below_mid : (o : Option ℕ) → o ≡ table_at m r (low_node page)
      → then_at o (walk_low m page a) ≡ translation a (leaf_at m o (page % 512))
  below_mid None at = refl
  below_mid (Some t) at = agree-low t at

  below_root : (o : Option ℕ) → o ≡ table_at m r (mid_node page)
      → then_at o (walk_mid m page a) ≡ translation a (leaf_at m (child_at m o (page / 512 % 512)) (page % 512))
  unfolding walk_mid
  below_root None at = refl
  below_root (Some t) at =
      agree-table m 512 page (entry_of m t (page / 512 % 512)) a (walk_low m page a) small
      (is.sound (mid_node page) t (page / 512 % 512) (mid_is_node page) (sym at) (omega arith))
      ∙ below_mid (child_of (entry_of m t (page / 512 % 512))) (sym (table_at-low m r page at))

  -- the walk follows the map at a canonical page
  walk_of-tree : is_canonical page ≡ true → walk_of m r page a ≡ translation a (lookup_of m r page)
  unfolding walk_of walk_high
  walk_of-tree canonical =
      let inside : ltb r (length m) ≡ true = lt-ltb r (length m) (tree-root is) in
      let mid = table_at-mid m r page in
      rw (canonical, inside)
      (agree-table m 262144 page (entry_of m r (page / 262144 % 512)) a (walk_mid m page a) small
      (is.sound Root r (page / 262144 % 512) tt (root_at m r) (omega arith))
      ∙ below_root (child_of (entry_of m r (page / 262144 % 512))) (sym mid)
      ∙ ap (translation a) (sym (lookup_of-low m r page (sym (table_at-low m r page (sym mid))))))

  walk_of-either : (b : Bool) → is_canonical page ≡ b
      → walk_of m r page a ≡ (if b then translation a (lookup_of m r page) else None)
  walk_of-either true e = walk_of-tree e
  walk_of-either false e = walk_of-beyond m r page a e

  -- the walk gives a page's frame where the map has it and its marks allow the access, and nothing elsewhere
  pub walk_page-tree : (walk_page m r page a).frame ≡ given_frame m r page a
  walk_page-tree =
      sym (walk_of-is m r page a) ∙ walk_of-either (is_canonical_page page) (canonical-is page)

-- ---- what a page table finds lies in the memory

pub first-same : (g b f a : ℕ) → ◌≡◌ {A = Option (ℕ × ℕ)} (Some (g, b)) (Some (f, a)) → g ≡ f
first-same g b f a e = ap (λ (o : Option (ℕ × ℕ)). (unwrap_or o (0, 0)).0) e

pub second-same : (g b f a : ℕ) → ◌≡◌ {A = Option (ℕ × ℕ)} (Some (g, b)) (Some (f, a)) → b ≡ a
second-same g b f a e = ap (λ (o : Option (ℕ × ℕ)). (unwrap_or o (0, 0)).1) e

pub leaf_of-sound : (n e : ℕ) {f a : ℕ} → IsLeafEntry n e → leaf_of e ≡ Some (f, a) → (f < n) × IsLeafMarks a
leaf_of-sound n e (no_leaf z) h = absurd (let none : leaf_of e ≡ None = ap leaf_of z ∙ leaf_of-zero in cc)
leaf_of-sound n e {f} {a} (a_leaf g marks inside good is) h =
    let both : ◌≡◌ {A = Option (ℕ × ℕ)} (Some (g, marks)) (Some (f, a)) = sym (leaf_of-leaf g marks good.0)
    ∙ ap leaf_of (sym is) ∙ h in
    let frame : g ≡ f = first-same g marks f a both in
    let mark : marks ≡ a = second-same g marks f a both in
    (rw (← frame) inside, rw (← mark) good)

module _ {m : Ram} {r : ℕ} (is : IsTree m r) where
  leaf_at-sound : (p f a : ℕ) (o : Option ℕ) → o ≡ table_at m r (low_node p) → leaf_at m o (p % 512) ≡ Some (f, a)
      → (f < length m) × IsLeafMarks a
  leaf_at-sound p f a None at h = absurd cc
  leaf_at-sound p f a (Some u) at h = leaf_of-sound (length m) (entry_of m u (p % 512)) (tree-leaf_sound is p at) h

  pub lookup-sound : (p : ℕ) {f a : ℕ} → lookup_of m r p ≡ Some (f, a) → (f < length m) × IsLeafMarks a
  unfolding lookup_of
  lookup-sound p {f} {a} h = leaf_at-sound p f a (table_at m r (low_node p)) refl h

  -- the frame of a page that is mapped lies in the memory
  pub mapped-inside : (p : ℕ) (o : Option (ℕ × ℕ)) {f : ℕ} → lookup_of m r p ≡ o
      → option_map (λ (x : ℕ × ℕ). x.0) o ≡ Some f → f < length m
  mapped-inside p None at e = absurd (none-some _ e)
  mapped-inside p (Some (g, a)) at e = rw (ap (λ (x : Option ℕ). unwrap_or x 0) e) at (lookup-sound p at).0
