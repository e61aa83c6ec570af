-- The pages as a list.
use Rattle.vm.proofs.Common.{Ram, ◌≡◌, ◌+◌, ℕ, Bool, true, false, List, replicate, refl, sym, ap, subst, ◌∙◌, arith}
use Rattle.vm.proofs.Common.{rules, ◌&&◌, ◌||◌, ◌*◌, one_if, not, and_parts, Access, Fetch, Load, Store, Perm, Page}
use Rattle.vm.proofs.Common.{permits, shared_marks, zeros, zero_page, leaf_allows, IsLeafMarks, page_with, IsUserLeaf}
use Rattle.vm.proofs.Common.{entry_marks, is_open, right_marks, user_leaf, [], add-one, cases_eq, frame_at, get_or}
use Rattle.vm.proofs.Common.{get_or-map-range_with_len, get_or_from_slice_get, inl, inr, IsDense, IsMemory, IsOpenFrom}
use Rattle.vm.proofs.Common.{IsSized, length, length-map-range_with_len, lookup-sound, map, map-range_with_len_more}
use Rattle.vm.proofs.Common.{Mapped, marks_at, memory_of, page_at, page_in, pages_below, range_with_len, read_at}
use Rattle.vm.proofs.Common.{read_below, SameLeaves, slice_get_within, suc, take, take-map-range_with_len, zero, ◌++◌}
use Rattle.vm.proofs.Common.{◌<◌, ◌∷◌, ◌≢◌, ◌≤◌, allowed, cases_lt, entries_below, eqb-true, frame_for, Held}
use Rattle.vm.proofs.Common.{if◌then◌else◌, is_canonical, IsCoherent, lookup_of, None, option_map, or_cases, slice_get}
use Rattle.vm.proofs.Common.{slice_get-get_or, slice_get-map, slice_get_past, Some, trap_marks, trap_page, WalksTo, ◌%◌}
use Rattle.vm.proofs.Common.{◌-◌, ◌/◌, ◌==◌, ◌^◌, ◌⊎◌}
use Rattle.pagetable.specs.Marks.{leaf_marks}
use Rattle.std.proofs.lemmas.Simd.{map-map}
use Rattle.pagetable.specs.Agree.{given_frame, translation}
use Rattle.pagetable.proofs.AgreeLemmas.{walk_page-tree}
use Rattle.vm.proofs.ReachLemmas.{get-take}

-- ---- lemmas on the marks of leaves

abbrev marks_by : Bool → Bool → Bool → Bool → Perm
marks_by w x u s = record { writable = w; executable = x; user = u; shared = s }

-- a statement for both values of a bit
abbrev Both : (Bool → Type 0) → Type 0
Both P = P true × P false

both : (P : Bool → Type 0) → Both P → (b : Bool) → P b
both P h true = h.0
both P h false = h.1

-- what holds for each value of four bits holds for all, and a search computes each
four : (P : Bool → Bool → Bool → Bool → Type 0) → Both (λ w. Both (λ x. Both (λ u. Both (P w x u))))
    → (w x u wide : Bool) → P w x u wide
four P h w x u = both (P w x u)
    (both (λ u. Both (P w x u))
    (both (λ x. Both (λ u. Both (P w x u))) (both (λ w. Both (λ x. Both (λ u. Both (P w x u)))) h w) x) u)

-- and for all marks of an open or a closed leaf
marked : (P : Perm → Bool → Type 0) → Both (λ w. Both (λ x. Both (λ u. Both (λ s. Both (P (marks_by w x u s))))))
    → (marks : Perm) (wide : Bool) → P marks wide
marked P h marks = four (λ x u s. P (marks_by marks.writable x u s))
    (both (λ w. Both (λ x. Both (λ u. Both (λ s. Both (P (marks_by w x u s)))))) h marks.writable) marks.executable
    marks.user marks.shared

-- what a program may do is read back off the leaf
pub right-leaf : (marks : Perm) (wide : Bool) → right_marks (user_leaf marks wide) ≡ marks
right-leaf = marked (λ marks wide. right_marks (user_leaf marks wide) ≡ marks) (search rules)

pub leaf-user : (marks : Perm) (wide : Bool) → IsUserLeaf (user_leaf marks wide)
leaf-user = marked (λ marks wide. IsUserLeaf (user_leaf marks wide)) (search rules)

pub leaf-valid : (marks : Perm) (wide : Bool) → IsLeafMarks (user_leaf marks wide)
leaf-valid = marked (λ marks wide. IsLeafMarks (user_leaf marks wide)) (search rules)

open-each : (marks : Perm) (wide : Bool)
    → is_open (user_leaf marks wide) ≡ (marks.writable && (wide || not marks.shared))
open-each = marked (λ marks wide. is_open (user_leaf marks wide) ≡ (marks.writable && (wide || not marks.shared)))
    (search rules)

-- a leaf is open where it is made so and the page is writable by right
pub leaf-open : (marks : Perm) → is_open (user_leaf marks true) ≡ marks.writable
leaf-open marks = open-each marks true ∙ both (λ w. (w && true) ≡ w) (refl, refl) marks.writable

pub leaf-closed : (marks : Perm) → is_open (user_leaf (shared_marks marks) false) ≡ false
leaf-closed marks = open-each (shared_marks marks) false ∙ both (λ w. (w && false) ≡ false) (refl, refl) marks.writable

-- the leaf that the code makes, with the bits that the walk doesn't look at
pub leaf-made : (w x u s : Bool)
    → leaf_marks (marks_by w x u false) + (256 * one_if w + 512 * one_if s) ≡ user_leaf (marks_by w x u s) true
unfolding leaf_marks
leaf-made true x u s = omega arith
leaf-made false x u s = omega arith

-- and the closed one
pub leaf-shut : (w x u : Bool)
    → leaf_marks (marks_by false x u false) + (256 * one_if w + 512 * one_if true)
    ≡ user_leaf (marks_by w x u true) false
unfolding leaf_marks
leaf-shut true x u = omega arith
leaf-shut false x u = omega arith

abbrev page_of : List ℕ → Perm → Page
page_of bytes marks = record { bytes = bytes; marks = marks }

-- a page of zeros
pub page-zero : (marks : Perm) → page_with (replicate 4096 0) (user_leaf marks true) ≡ zero_page marks
unfolding zeros
page-zero marks = ap (λ (x : Perm). page_of (replicate 4096 0) x) (right-leaf marks true)

-- ---- what the walk lets through

allows-each : (a : Access) (marks : Perm) (wide : Bool)
    → leaf_allows a (user_leaf marks wide) ≡ permits a (entry_marks (user_leaf marks wide))
allows-each Fetch = marked
    (λ marks wide. leaf_allows Fetch (user_leaf marks wide) ≡ permits Fetch (entry_marks (user_leaf marks wide)))
    (search rules)
allows-each Load = marked
    (λ marks wide. leaf_allows Load (user_leaf marks wide) ≡ permits Load (entry_marks (user_leaf marks wide)))
    (search rules)
allows-each Store = marked
    (λ marks wide. leaf_allows Store (user_leaf marks wide) ≡ permits Store (entry_marks (user_leaf marks wide)))
    (search rules)

pub leaf-allows : (a : Access) (leaf : ℕ) → IsUserLeaf leaf → leaf_allows a leaf ≡ permits a (entry_marks leaf)
leaf-allows a leaf is = subst (λ (l : ℕ). leaf_allows a l ≡ permits a (entry_marks l)) (sym is)
    (allows-each a (right_marks leaf) (is_open leaf))

-- an open page is writable by right
pub open-right : (leaf : ℕ) → IsUserLeaf leaf → is_open leaf ≡ true → (right_marks leaf).writable ≡ true
open-right leaf is wide =
    (and_parts (right_marks leaf).writable (is_open leaf || not (right_marks leaf).shared)
    (sym (open-each (right_marks leaf) (is_open leaf)) ∙ ap is_open (sym is) ∙ wide)).0

open-by : (w wide s : Bool) → s ≡ false → (w && (wide || not s)) ≡ w
open-by true true false e = refl
open-by true false false e = refl
open-by false wide false e = refl
open-by w wide true e = absurd cc

-- a page that no fork had is open where it is writable by right
pub open-unshared : (leaf : ℕ) → IsUserLeaf leaf → (right_marks leaf).shared ≡ false
    → is_open leaf ≡ (right_marks leaf).writable
open-unshared leaf is none =
    let g = right_marks leaf in
    ap is_open is ∙ open-each g (is_open leaf) ∙ open-by g.writable (is_open leaf) g.shared none

pub mapping-map : (read : ℕ → Perm) (m : Ram) (r n : ℕ)
    → read_below read m r n ≡ map (read_at read m r) (range_with_len 0 n)
unfolding read_below
mapping-map read m r zero = refl
mapping-map read m r (suc n) = ap (λ l. l ++ (read_at read m r n ∷ [])) (mapping-map read m r n)
    ∙ sym (map-range_with_len_more (read_at read m r) 0 n n (omega arith))
    ∙ ap (λ k. map (read_at read m r) (range_with_len 0 k)) (add-one n)

pub pages-map : (m : Ram) (r n : ℕ) → pages_below m r n ≡ map (page_at m r) (range_with_len 0 n)
pages-map m r n = ap (memory_of m) (mapping-map right_marks m r n)
    ∙ map-map (page_in m) (read_at right_marks m r) (range_with_len 0 n)

module _ (m : Ram) (r n : ℕ) where
  pub length-pages : length (pages_below m r n) ≡ n
  length-pages = ap length (pages-map m r n) ∙ length-map-range_with_len (page_at m r) 0 n

  pub get_or-pages : (p : ℕ) (d : Page) → p < n → get_or (pages_below m r n) p d ≡ page_at m r p
  get_or-pages p d h = ap (λ l. get_or l p d) (pages-map m r n)
      ∙ get_or-map-range_with_len (page_at m r) 0 n p p d h (omega arith)

  pub take-pages : (k : ℕ) → k ≤ n → take k (pages_below m r n) ≡ pages_below m r k
  take-pages k h = ap (take k) (pages-map m r n) ∙ take-map-range_with_len (page_at m r) 0 n k h ∙ sym (pages-map m r k)

module _ (read : ℕ → Perm) (m : Ram) (r n : ℕ) where
  pub length-mapping : length (read_below read m r n) ≡ n
  length-mapping = ap length (mapping-map read m r n) ∙ length-map-range_with_len (read_at read m r) 0 n

  pub get_or-mapping : (p : ℕ) (d : Mapped) → p < n → get_or (read_below read m r n) p d ≡ read_at read m r p
  get_or-mapping p d h = ap (λ l. get_or l p d) (mapping-map read m r n)
      ∙ get_or-map-range_with_len (read_at read m r) 0 n p p d h (omega arith)

  pub take-mapping : (k : ℕ) → k ≤ n → take k (read_below read m r n) ≡ read_below read m r k
  take-mapping k h = ap (take k) (mapping-map read m r n) ∙ take-map-range_with_len (read_at read m r) 0 n k h
      ∙ sym (mapping-map read m r k)

-- each has 4096 bytes
pub pages-sized : (m : Ram) (r t n : ℕ) → IsMemory m → IsDense m r t n → IsSized (pages_below m r n)
pages-sized m r t n memory is i p at =
    let low : i < n = omega (arith, slice_get_within (pages_below m r n) i p at, length-pages m r n) in
    let same : page_at m r i ≡ p = sym (get_or-pages m r n i p low)
    ∙ get_or_from_slice_get (pages_below m r n) i p p at in
    ap (λ (x : Page). length x.bytes) (sym same)
    ∙ memory.sized (frame_at m r i) (lookup-sound is.tree i (is.pages i low)).0

-- ---- pages that are open stay so

-- pages whose leaves are read as they were are as open as they were
pub open-read : (m k : Ram) (r n first : ℕ) → SameLeaves m k r n → IsOpenFrom m r n first → IsOpenFrom k r n first
open-read m k r n first same is p high low =
    let d : Mapped = read_at right_marks m r p in
    let marks : (read : ℕ → Perm)
    → read (marks_at k r p) ≡ read (marks_at m r p) =
    λ read. ap (λ (e : Mapped). e.marks)
    (sym (get_or-mapping read k r n p d low) ∙ ap (λ (l : List Mapped). get_or l p d) (same read)
    ∙ get_or-mapping read m r n p d low) in
    ap (λ (a : Perm). a.writable) (marks entry_marks) ∙ is p high low
    ∙ sym (ap (λ (a : Perm). a.writable) (marks right_marks))

-- a leaf that is made open is so where the page is writable by right
pub made-open : (leaf : ℕ) (g : Perm) → leaf ≡ user_leaf g true → is_open leaf ≡ (right_marks leaf).writable
made-open leaf g made = ap is_open made ∙ leaf-open g
    ∙ sym (ap (λ (l : ℕ). (right_marks l).writable) made ∙ ap (λ (a : Perm). a.writable) (right-leaf g true))

-- one page more, which is open
pub open-more : (m k : Ram) (r n first leaf : ℕ) → SameLeaves m k r n → marks_at k r n ≡ leaf
    → is_open leaf ≡ (right_marks leaf).writable → IsOpenFrom m r n first → IsOpenFrom k r (n + 1) first
open-more m k r n first leaf same made wide is p high low = elim (cases_eq p n) [
  | inl e ↦
      let at : marks_at k r p ≡ leaf = ap (marks_at k r) e ∙ made in
      ap is_open at ∙ wide ∙ sym (ap (λ (l : ℕ). (right_marks l).writable) at)
  | inr ne ↦ open-read m k r n first same is p high (omega arith)
]

-- one page is opened, and the others are as they were
pub open-one : (m k : Ram) (r n p first : ℕ) (g : Perm) → marks_at k r p ≡ user_leaf g true
    → ((q : ℕ) → q < n → q ≢ p → marks_at k r q ≡ marks_at m r q) → IsOpenFrom m r n first → IsOpenFrom k r n first
open-one m k r n p first g made others is q high low = elim (cases_eq q p) [
  | inl e ↦ made-open (marks_at k r q) g (ap (marks_at k r) e ∙ made)
  | inr ne ↦
      let same = others q low ne in
      ap is_open same ∙ is q high low ∙ sym (ap (λ (l : ℕ). (right_marks l).writable) same)
]

-- fewer pages
pub open-fewer : (m : Ram) (r n k first : ℕ) → k ≤ n → IsOpenFrom m r n first → IsOpenFrom m r k first
open-fewer m r n k first less is p high low = is p high (omega arith)

-- ---- the walk follows the mapping of a space

-- ---- the mapping, an entry at a time

abbrev mapped_of : ℕ → Perm → Mapped
mapped_of f a = record { frame = f; marks = a }

module _ (read : ℕ → Perm) (m : Ram) (r n p : ℕ) where
  pub get-mapping : p < n → slice_get (read_below read m r n) p ≡ Some (read_at read m r p)
  get-mapping h =
      slice_get-get_or (read_below read m r n) p (read_at read m r p) (omega (arith, length-mapping read m r n))
      ∙ ap Some (get_or-mapping read m r n p (read_at read m r p) h)

  pub mapping-past : n ≤ p → slice_get (read_below read m r n) p ≡ None
  mapping-past h = slice_get_past (read_below read m r n) p (omega (arith, length-mapping read m r n))

  pub mapping-within : (e : Mapped) → slice_get (read_below read m r n) p ≡ Some e → p < n
  mapping-within e h = omega (arith, slice_get_within (read_below read m r n) p e h, length-mapping read m r n)

  pub mapping-is : (e : Mapped) → slice_get (read_below read m r n) p ≡ Some e → read_at read m r p ≡ e
  mapping-is e h =
      let both : Some (read_at read m r p) ≡ Some e = sym (get-mapping (mapping-within e h)) ∙ h in
      cc

pub mapped-parts : {f g : ℕ} {a b : Perm} → f ≡ g → a ≡ b → mapped_of f a ≡ mapped_of g b
mapped-parts {g} {a} e h = ap (λ x. mapped_of x a) e ∙ ap (mapped_of g) h

-- an entry of the mapping is a page of the memory
pub mapped-page : (m : Ram) (mapping : List Mapped) (p : ℕ) (e : Mapped) → Some e ≡ slice_get mapping p
    → slice_get (memory_of m mapping) p ≡ Some (page_in m e)
mapped-page m mapping p e h = slice_get-map (page_in m) mapping p ∙ ap (option_map (page_in m)) (sym h)

pub unmapped-page : (m : Ram) (mapping : List Mapped) (p : ℕ) → None ≡ slice_get mapping p
    → slice_get (memory_of m mapping) p ≡ None
unmapped-page m mapping p h = slice_get-map (page_in m) mapping p ∙ ap (option_map (page_in m)) (sym h)

-- ---- the walk

framed : (b : Bool) (e : Mapped)
    → option_map (λ x. x.frame) (if b then Some e else None) ≡ (if b then Some e.frame else None)
framed true e = refl
framed false e = refl

frame-mapped : (m : Ram) (r n p : ℕ) (a : Access) → p < n
    → frame_for (entries_below m r n) p a
    ≡ (if permits a (entry_marks (marks_at m r p)) then Some (frame_at m r p) else None)
frame-mapped m r n p a h =
    ap (λ o. option_map (λ x. x.frame) (allowed a o)) (get-mapping entry_marks m r n p h)
    ∙ framed (permits a (entry_marks (marks_at m r p))) (read_at entry_marks m r p)

-- the trap frame's page allows programs nothing
trap-closed : (a : Access) → leaf_allows a trap_marks ≡ false
trap-closed Fetch = refl
trap-closed Load = refl
trap-closed Store = refl

lookup-low : (m : Ram) (r p : ℕ) → lookup_of m r p ≡ lookup_of m r (p % 2 ^ 27)
unfolding lookup_of
lookup-low m r p =
    let q = p % 2 ^ 27 in
    let mid : q / 262144 % 512 ≡ p / 262144 % 512 = omega arith in
    let low : q / 512 % 512 ≡ p / 512 % 512 = omega arith in
    let last : q % 512 ≡ p % 512 = omega arith in
    rw (mid, low, last) refl

canonical-low : (p : ℕ) → is_canonical p ≡ true → (p < 2 ^ 26) ⊎ (2 ^ 26 ≤ p % 2 ^ 27)
canonical-low p e = elim (or_cases (p / 2 ^ 26 == 0) (p / 2 ^ 26 == 2 ^ 26 - 1) e) [
  | inl low ↦ inl (omega (arith, eqb-true (p / 2 ^ 26) 0 low))
  | inr top ↦ inr (omega (arith, eqb-true (p / 2 ^ 26) (2 ^ 26 - 1) top))
]

module _ {m : Ram} {r t n : ℕ} (is : IsDense m r t n) where
  closed : (q : ℕ) (a : Access) → n ≤ q → q < 2 ^ 27 → translation a (lookup_of m r q) ≡ None
  closed q a high low = elim (cases_eq q trap_page) [
    | inl e ↦ ap (λ p. translation a (lookup_of m r p)) e ∙ ap (translation a) is.trap
        ∙ ap (λ b. if b then Some t else None) (trap-closed a)
    | inr ne ↦ ap (translation a) (is.rest q high low ne)
  ]

  given-past : (p : ℕ) (a : Access) (b : Bool) → n ≤ p → is_canonical p ≡ b
      → (if b then translation a (lookup_of m r p) else None) ≡ None
  given-past p a false high e = refl
  given-past p a true high e =
      ap (translation a) (lookup-low m r p)
      ∙ closed (p % 2 ^ 27) a (elim (canonical-low p e) [ inl low ↦ omega arith | inr top ↦ omega arith ])
      (omega arith)

  given-mapped : (p : ℕ) (a : Access) → p < n
      → given_frame m r p a ≡ (if permits a (entry_marks (marks_at m r p)) then Some (frame_at m r p) else None)
  given-mapped p a h =
      let low : p / 2 ^ 26 ≡ 0 = omega arith in
      rw low (ap (translation a) (is.pages p h)
      ∙ ap (λ b. if b then Some (frame_at m r p) else None) (leaf-allows a (marks_at m r p) (is.leaves p h)))

pub walks-entries : (m : Ram) (r t n : ℕ) → length m ≤ 32768 → IsDense m r t n → WalksTo m r (entries_below m r n)
walks-entries m r t n small is = record {
  walks = λ p a. walk_page-tree p a small is.tree ∙ (elim (cases_lt p n) [
    | inl low ↦ given-mapped is p a low ∙ sym (frame-mapped m r n p a low)
    | inr high ↦ given-past is p a (is_canonical p) high refl
        ∙ sym (ap (λ o. option_map (λ x. x.frame) (allowed a o)) (mapping-past entry_marks m r n p high))
  ]);
}

-- ---- a mapping that grows

-- what a translator holds of a mapping it may hold when pages are added after it
pub coherent-grown : (held : Held) (root : ℕ) (old new : List Mapped) → take (length old) new ≡ old
    → IsCoherent held root old → IsCoherent held root new
coherent-grown held root old new front is = record {
  walks = λ t h same. elim (cases_lt t.page (length old)) [
    | inl low ↦ ap (λ o. option_map (λ x. x.frame) (allowed t.access o))
        (sym (get-take new (length old) t.page low) ∙ ap (λ l. slice_get l t.page) front) ∙ is.walks t h same
    | inr high ↦
        let none : frame_for old t.page t.access ≡ None =
        ap (λ o. option_map (λ x. x.frame) (allowed t.access o)) (slice_get_past old t.page high) in
        let some = is.walks t h same in
        absurd cc
  ];
}
