-- What the walk lets a program do in a space, and what it may do by right.
use Rattle.spaces.proofs.Common.{Ram, Alike, Narrows, changed, put_in, ◌≡◌, ◌⊎◌, ◌&&◌, inl, inr, ℕ, ◌%◌, ◌/◌, ◌^◌, ◌<◌}
use Rattle.spaces.proofs.Common.{◌≤◌, Bool, true, false, cond, List, Option, Some, None, refl, sym, ap, ◌∙◌}
use Rattle.spaces.proofs.Common.{option_and_then, option_map, slice_get, cases_Bool, cases_lt, memory_of, page_in}
use Rattle.spaces.proofs.Common.{Fetch, Load, Store, Change, Bytes, Nothing, ShowsByte, ShowsMemory, byte_at, is_shared}
use Rattle.spaces.proofs.Common.{page_byte, walk, Perm, Memory, Page, page_for, permits, permitted, marks_at, read_at}
use Rattle.spaces.proofs.Common.{read_below, entries_below, pages_below, mapping_below, IsUserLeaf, entry_marks}
use Rattle.spaces.proofs.Common.{is_open, right_marks, user_leaf, get-mapping, mapped-page, mapping-past, unmapped-page}
use Rattle.spaces.proofs.Common.{Err, Ok, and_parts, cycle-retries, IsSound, WritesOnly, Mapped, cycle, Computed}
use Rattle.spaces.proofs.Common.{Effect, trap, StorePageFault, Trap, mapping-is, mapping-within, frame_at, entries_of}
use Rattle.spaces.proofs.Common.{IsMapped, IsOnce, pages_in, pages_of, Stands, Space}
use Rattle.unixmodel.specs.declared.trap.Access.{Access}
use Rattle.vm.proofs.PageLemmas.{leaf-open, open-right, open-unshared, right-leaf}
use Rattle.unixmodel.specs.declared.trap.Cause.{Cause}
use Rattle.vm.proofs.StoreLemmas.{Stands-none, page-inside, pages-same, space-stored}

-- ---- a page

page-here : (read : ℕ → Perm) (m : Ram) (r n p : ℕ) → p < n
    → slice_get (memory_of m (read_below read m r n)) p ≡ Some (page_in m (read_at read m r p))
page-here read m r n p low =
    mapped-page m (read_below read m r n) p (read_at read m r p) (sym (get-mapping read m r n p low))

page-past : (read : ℕ → Perm) (m : Ram) (r n p : ℕ) → n ≤ p → slice_get (memory_of m (read_below read m r n)) p ≡ None
page-past read m r n p high = unmapped-page m (read_below read m r n) p (sym (mapping-past read m r n p high))

cond-alike : (b c : Bool) (p q : Page) → b ≡ c → p.bytes ≡ q.bytes → Alike (cond b (Some p) None) (cond c (Some q) None)
cond-alike true true p q e same = ap Some same
cond-alike false false p q e same = refl
cond-alike _ _ p q e same = absurd cc

alike-by : (a : Access) (o w : Option Page) (p q : Page) → o ≡ Some p → w ≡ Some q
    → permits a p.marks ≡ permits a q.marks → p.bytes ≡ q.bytes → Alike (permitted a o) (permitted a w)
alike-by a o w p q here there same bytes =
    rw (here, there) (cond-alike (permits a p.marks) (permits a q.marks) p q same bytes)

-- an access that both marks of a page permit, or neither
alike-at : (a : Access) (m : Ram) (r n p : ℕ)
    → (p < n → permits a (entry_marks (marks_at m r p)) ≡ permits a (right_marks (marks_at m r p)))
    → Alike (permitted a (slice_get (memory_of m (entries_below m r n)) p))
    (permitted a (slice_get (pages_below m r n) p))
alike-at a m r n p same = elim (cases_lt p n) [
  | inl low ↦
      alike-by a (slice_get (memory_of m (entries_below m r n)) p) (slice_get (pages_below m r n) p)
      (page_in m (read_at entry_marks m r p)) (page_in m (read_at right_marks m r p))
      (page-here entry_marks m r n p low) (page-here right_marks m r n p low) (same low) refl
  | inr high ↦ ap (λ (o : Option Page). option_map (λ (x : Page). x.bytes) (permitted a o))
      (page-past entry_marks m r n p high ∙ sym (page-past right_marks m r n p high))
]

-- ---- all of them

closed-none : (b u : Bool) (p : Page) → b ≡ false → cond (b && u) (Some p) None ≡ None
closed-none true u p e = absurd cc
closed-none false u p e = refl

store-at : (m : Ram) (r n p : ℕ) → ((q : ℕ) → q < n → IsUserLeaf (marks_at m r q))
    → (permitted Store (slice_get (memory_of m (entries_below m r n)) p) ≡ None)
    ⊎ Alike (permitted Store (slice_get (memory_of m (entries_below m r n)) p))
    (permitted Store (slice_get (pages_below m r n) p))
store-at m r n p leaves = elim (cases_lt p n) [
  | inl low ↦ elim (cases_Bool (is_open (marks_at m r p))) [
    | inl wide ↦ inr (alike-at Store m r n p
        (λ h. ap (λ (b : Bool). b && (right_marks (marks_at m r p)).user)
        (wide ∙ sym (open-right (marks_at m r p) (leaves p low) wide))))
    | inr shut ↦ inl (ap (permitted Store) (page-here entry_marks m r n p low)
        ∙ closed-none (is_open (marks_at m r p)) (right_marks (marks_at m r p)).user
        (page_in m (read_at entry_marks m r p)) shut)
  ]
  | inr high ↦ inl (ap (permitted Store) (page-past entry_marks m r n p high))
]

-- what the walk lets through narrows what a program may do by right
narrows-right : (m : Ram) (r n : ℕ) → ((q : ℕ) → q < n → IsUserLeaf (marks_at m r q))
    → Narrows (memory_of m (entries_below m r n)) (pages_below m r n)
narrows-right m r n leaves = record {
  fetch = λ address. alike-at Fetch m r n (address / 4096) (λ h. refl);
  load = λ address. alike-at Load m r n (address / 4096) (λ h. refl);
  store = λ address. store-at m r n (address / 4096) leaves;
}

-- a page that was opened lets a store through where the program may write it by right
pub opened-alike : (m : Ram) (r n address : ℕ) (g : Perm) → marks_at m r (address / 4096) ≡ user_leaf g true
    → Alike (page_for Store (memory_of m (entries_below m r n)) address) (page_for Store (pages_below m r n) address)
opened-alike m r n address g made =
    let leaf = marks_at m r (address / 4096) in
    let wide : is_open leaf ≡ g.writable = ap is_open made ∙ leaf-open g in
    let right : (right_marks leaf).writable ≡ g.writable = ap (λ (l : ℕ). (right_marks l).writable) made
    ∙ ap (λ (a : Perm). a.writable) (right-leaf g true) in
    alike-at Store m r n (address / 4096) (λ h. ap (λ (b : Bool). b && (right_marks leaf).user) (wide ∙ sym right))

-- ---- stores depend on frames alone

pub changed-right : (m : Ram) (r n : ℕ) (c : Change)
    → changed m (entries_below m r n) c ≡ changed m (mapping_below m r n) c
changed-right m r n Nothing = refl
changed-right m r n (Bytes address bytes) =
    let p = address / 4096 in
    let same : put_in m (slice_get (entries_below m r n) p) (address % 4096) bytes
    ≡ put_in m (slice_get (mapping_below m r n) p) (address % 4096) bytes = elim (cases_lt p n) [
      | inl low ↦ rw (get-mapping entry_marks m r n p low, get-mapping right_marks m r n p low) refl
      | inr high ↦ rw (mapping-past entry_marks m r n p high, mapping-past right_marks m r n p high) refl
    ] in
    same

-- ---- what walks reach

byte-alike : (va : ℕ) (p q : Option Page) → Alike p q
    → option_and_then (λ (x : Page). slice_get x.bytes (va % 4096)) p
    ≡ option_and_then (λ (x : Page). slice_get x.bytes (va % 4096)) q
byte-alike va None None h = refl
byte-alike va (Some p) (Some q) h =
    let same : p.bytes ≡ q.bytes = cc in
    ap (λ (bytes : List ℕ). slice_get bytes (va % 4096)) same
byte-alike va _ _ h = absurd cc

-- a page that no fork had lets a store through where the program may write it by right
unshared-alike : (m : Ram) (r n p : ℕ) → ((q : ℕ) → q < n → IsUserLeaf (marks_at m r q))
    → is_shared (slice_get (pages_below m r n) p) ≡ false
    → Alike (permitted Store (slice_get (memory_of m (entries_below m r n)) p))
    (permitted Store (slice_get (pages_below m r n) p))
unshared-alike m r n p leaves none = alike-at Store m r n p (λ low.
    let leaf = marks_at m r p in
    let alone : (right_marks leaf).shared ≡ false = ap is_shared (sym (page-here right_marks m r n p low)) ∙ none in
    ap (λ (b : Bool). b && (right_marks leaf).user) (open-unshared leaf (leaves p low) alone))

-- what the walk lets through, beside what a program may do by right: it is narrower, and the same for stores to a page
-- that no fork had
pub record IsSeen (low high : Memory) : Type 0 where
  pub narrows : Narrows low high
  pub unshared : (address : ℕ) → is_shared (slice_get high (address / 4096)) ≡ false
      → Alike (page_for Store low address) (page_for Store high address)

pub seen-right : (m : Ram) (r n : ℕ) → ((q : ℕ) → q < n → IsUserLeaf (marks_at m r q))
    → IsSeen (memory_of m (entries_below m r n)) (pages_below m r n)
seen-right m r n leaves = record {
  narrows = narrows-right m r n leaves;
  unshared = λ address none. unshared-alike m r n (address / 4096) leaves none;
}

shows-store : (va : ℕ) (low high : Memory) (found : Option ℕ) (shared : Bool) → IsSeen low high
    → is_shared (slice_get high (va / 4096)) ≡ shared → found ≡ page_byte low va Store
    → ShowsByte Store shared found (page_byte high va Store)
shows-store va low high found false down is e = e
    ∙ byte-alike va (page_for Store low va) (page_for Store high va) (down.unshared va is)
shows-store va low high found true down is e = elim (down.narrows.store va) [
  | inl none ↦ inl (e ∙ ap (option_and_then (λ (x : Page). slice_get x.bytes (va % 4096))) none)
  | inr alike ↦ inr (e ∙ byte-alike va (page_for Store low va) (page_for Store high va) alike)
]

shows-byte : (access : Access) (va : ℕ) (low high : Memory) (found : Option ℕ) → IsSeen low high
    → found ≡ page_byte low va access
    → ShowsByte access (is_shared (slice_get high (va / 4096))) found (page_byte high va access)
shows-byte Fetch va low high found down e = e
    ∙ byte-alike va (page_for Fetch low va) (page_for Fetch high va) (down.narrows.fetch va)
shows-byte Load va low high found down e = e
    ∙ byte-alike va (page_for Load low va) (page_for Load high va) (down.narrows.load va)
shows-byte Store va low high found down e =
    shows-store va low high found (is_shared (slice_get high (va / 4096))) down refl e

pub shows-right : (ram : Ram) (root : ℕ) (low high : Memory) → IsSeen low high
    → ((va : ℕ) (access : Access) → va < 2 ^ 64
    → option_and_then (byte_at ram) (walk ram root va access) ≡ page_byte low va access) → ShowsMemory ram root high
shows-right ram root low high down reached va access small =
    shows-byte access va low high (option_and_then (byte_at ram) (walk ram root va access)) down
    (reached va access small)

-- ---- one space

-- what an instruction writes leaves the space intact
pub stands-only : (m k : Ram) (x : Space) → IsMapped m x → IsOnce m x → WritesOnly m (entries_of m x) k → Stands m k x
stands-only m k x is once (inl same) = rw same (Stands-none m x is once)
stands-only m k x is once (inr wrote) =
    let n = pages_in x.size in
    let at = mapping-is entry_marks m x.root.0 n wrote.page wrote.entry wrote.mapped in
    let frame : frame_at m x.root.0 wrote.page ≡ wrote.entry.frame = ap (λ (e : Mapped). e.frame) at in
    let wide : is_open (marks_at m x.root.0 wrote.page) ≡ true =
    ap (λ (e : Mapped). e.marks.writable)
    at ∙ (and_parts wrote.entry.marks.writable wrote.entry.marks.user wrote.permitted).0 in
    space-stored m k x wrote.page wrote.bytes is once
    (mapping-within entry_marks m x.root.0 n wrote.page wrote.entry wrote.mapped) wide (rw frame wrote.is)

-- a page that the hart may be run on is a page of the space, with that page's frame
read-frame : (read : ℕ → Perm) (m : Ram) (x : Space) (p : ℕ) (e : Mapped)
    → slice_get (read_below read m x.root.0 (pages_in x.size)) p ≡ Some e
    → (p < pages_in x.size) × (frame_at m x.root.0 p ≡ e.frame)
read-frame read m x p e at = (
  mapping-within read m x.root.0 (pages_in x.size) p e at,
  ap (λ (e : Mapped). e.frame) (mapping-is read m x.root.0 (pages_in x.size) p e at),
)

pub sound : (read : ℕ → Perm) (m : Ram) (x : Space) → IsMapped m x → IsOnce m x
    → IsSound m (read_below read m x.root.0 (pages_in x.size))
sound read m x is once = record {
  inside = λ p e at. (let low = read-frame read m x p e at in rw low.1
      at (page-inside m x.root.0 x.trap.0 (pages_in x.size) p is low.0));
  alone = λ p e at permitted q d f at_p at_q same. (
      let here = read-frame read m x p d at_p in
      let there = read-frame read m x q f at_q in
      pages-same m x.root.0 x.trap.0 (pages_in x.size) q p once there.0 here.0 (there.1 ∙ same ∙ sym here.1));
}

-- the memory that the walk lets a program see
abbrev pub let_through : Ram → Space → Memory
let_through m x = memory_of m (entries_of m x)

pub narrows : (m : Ram) (x : Space) → IsMapped m x → Narrows (let_through m x) (pages_of m x)
narrows m x is = narrows-right m x.root.0 (pages_in x.size) is.leaves

-- ---- the walk lets through what is right, or a store faults at a page that is closed

abbrev cause_of : Effect → Cause
cause_of (Ok d) = StorePageFault
cause_of (Err c) = c.cause

abbrev address_of : Effect → ℕ
address_of (Ok d) = 0
address_of (Err c) = c.address

module _ (m : Ram) (x : Space) (regs : List ℕ) (pc : ℕ) (is : IsMapped m x) where
  -- an instruction that is done
  pub done-right : (d : Computed) → cycle regs pc (let_through m x) ≡ Ok d → cycle regs pc (pages_of m x) ≡ Ok d
  done-right d low = elim (cycle-retries regs pc (let_through m x) (pages_of m x) (narrows m x is)) [
    | inl same ↦ sym same ∙ low
    | inr (address, fault, none, again) ↦ absurd
        (let bad : ◌≡◌ {A = Effect} (Ok d) (trap StorePageFault address) = sym low ∙ fault in cc)
  ]

  -- a trap that is none of a store to a page that is writable by right
  pub trap-right : (c : Trap) → cycle regs pc (let_through m x) ≡ Err c
      → (c.cause ≡ StorePageFault → page_for Store (pages_of m x) c.address ≡ None)
      → cycle regs pc (pages_of m x) ≡ Err c
  trap-right c low closed = elim (cycle-retries regs pc (let_through m x) (pages_of m x) (narrows m x is)) [
    | inl same ↦ sym same ∙ low
    | inr (address, fault, none, again) ↦
        let both : ◌≡◌ {A = Effect} (Err c) (trap StorePageFault address) = sym low ∙ fault in
        let shut = sym (ap (page_for Store (pages_of m x)) (sym (ap address_of both)) ∙ closed (ap cause_of both)) in
        sym (again (let_through m x) (narrows m x is) (ap (option_map (λ (p : Page). p.bytes)) (none ∙ shut))) ∙ low
  ]
