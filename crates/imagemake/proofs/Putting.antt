-- Steps that put nodes, one after the other.
use Rattle.imagemake.proofs.FromRules.{KeepsRules-live}
use Rattle.imagemake.proofs.Common.{set, names_by-le, links_of, none-some, same_Some, ◌≡◌, ◌≢◌, ℕ, zero, suc, ◌-◌, ◌<◌}
use Rattle.imagemake.proofs.Common.{◌≤◌, true, List, [], ◌∷◌, ◌++◌, length, None, Option, Some, inl, inr, map, ap, sym}
use Rattle.imagemake.proofs.Common.{refl, ◌∙◌, arith, subst, count_by, flat_map, is_some, sum_by, ◌==◌, cases_lt}
use Rattle.imagemake.proofs.Common.{get_or-replicate, get_or-set_other, get_or-set_same, get_or_past, length-replicate}
use Rattle.imagemake.proofs.Common.{length-set, at_or, Node, blocks_for, dot, dot_dot, free_slots, size_of, slot, taken}
use Rattle.imagemake.proofs.Common.{KeepsRules, KeepsSize, all_entries, entries_of, names_of, bare_directory}
use Rattle.imagemake.proofs.Common.{bare_files, node_for, Bytes, Folder, Special, PackedAt, IsBegun, blocks_of, Entry}
use Rattle.imagemake.proofs.Common.{Thing, KeepsLive, KeepsTree, folders, names_for, Err, Ok, Result, OnOk, IsErrAnd}
use Rattle.imagemake.proofs.Common.{err_from_is_err_and, BlamesDevice, make_fault, MakeFault, StoreFault, is_err, ◌+◌}
use Rattle.imagemake.proofs.Common.{set-set, FileTree, IsNow, now-files, now-limit, blocks_of-set, slot-within}
use Rattle.imagemake.proofs.Common.{taken_by, Files, put, Puts, Directory}
use Rattle.imagemake.specs.declared.store.StoreFault.TheVariants.{Blocks, Device}
use Rattle.cache.proofs.Using.{rises-before}
use Rattle.tree.specs.Steps.{IsUnnamed}
use Rattle.tree.proofs.Gaps.{fresh-blocks}
use Rattle.unixmodel.specs.Failures.{HasCause}
use Rattle.imagemake.specs.Added.{LacksRoomFor, Owns, TellsFull}

-- ---- the files of an image with a root alone keep the rules

pub length-free : (n : ℕ) → length (free_slots {X = Node} n) ≡ n
unfolding free_slots
length-free n = length-replicate n None

pub slot-free : (n m : ℕ) → slot (free_slots {X = Node} n) m ≡ None
unfolding free_slots
slot-free n m = elim (cases_lt m n) [
  | inl l ↦ get_or-replicate n m None None l
  | inr r ↦ get_or_past _ m None (omega (arith, length-free n))
]

taken-free : (n : ℕ) → taken (free_slots {X = Node} n) ≡ []
unfolding free_slots
taken-free zero = refl
taken-free (suc n) = taken-free n

pub no-files : (n : ℕ) → blocks_of (free_slots n) ≡ 0
unfolding blocks_of
no-files n = ap (sum_by (λ (node : Node). blocks_for (size_of node))) (taken-free n)

flat_map-none : {X Y : Type 0} (f : X → List Y) → ((x : X) → f x ≡ []) → (xs : List X) → flat_map f xs ≡ []
flat_map-none f h [] = refl
flat_map-none f h (x ∷ xs) = ap (λ r. r ++ flat_map f xs) (h x) ∙ flat_map-none f h xs

both : (a b : Entry) (k : ℕ) → k < 2 → is_some (slot (Some a ∷ Some b ∷ []) k) ≡ true
both a b zero h = refl
both a b (suc zero) h = refl
both a b (suc (suc k)) h = absurd (omega arith)

-- each entry of what a thing makes is in use
pub packed-node : (n d : ℕ) (thing : Thing) → PackedAt (Some (node_for n d thing))
packed-node n d (Bytes bytes) = tt
packed-node n d (Special major minor) = tt
packed-node n d Folder = both (record { name = dot; number = n }) (record { name = dot_dot; number = d })

bare-blocks : (n : ℕ) → blocks_of (bare_files (suc (suc n))) ≡ 1
unfolding bare_files blocks_of free_slots
bare-blocks n = ap (λ xs. sum_by (λ (node : Node). blocks_for (size_of node)) (bare_directory 1 1 ∷ xs)) (taken-free n)

module _ (inodes : ℕ) (some : 2 ≤ inodes) where
  pub length-bare : length (bare_files inodes) ≡ inodes
  unfolding bare_files
  length-bare = length-set _ 1 _ ∙ length-free inodes

  pub slot-root : slot (bare_files inodes) 1 ≡ Some (bare_directory 1 1)
  unfolding bare_files
  slot-root = get_or-set_same _ 1 _ None (omega (arith, length-free inodes))

  pub slot-bare : (m : ℕ) → m ≢ 1 → slot (bare_files inodes) m ≡ None
  unfolding bare_files
  slot-bare m s = get_or-set_other _ 1 m _ None s ∙ slot-free inodes m

  -- what holds of the root and of numbers that aren't in use holds of each
  pub bare-each : (P : ℕ → Option Node → Type 0) → P 1 (Some (bare_directory 1 1)) → ((m : ℕ) → m ≢ 1 → P m None)
      → (m : ℕ) → P m (slot (bare_files inodes) m)
  bare-each P root none m =
      at_or (λ k. P k (slot (bare_files inodes) k)) 1 m (subst (P 1) (sym slot-root) root)
      (λ s. subst (P m) (sym (slot-bare m s)) (none m s))

  no_entries : all_entries (bare_files inodes) ≡ []
  unfolding all_entries
  no_entries =
      flat_map-none (λ d. map (λ (e : Entry). (d, e)) (entries_of (slot (bare_files inodes) d)))
      (λ d. ap (map (λ (e : Entry). (d, e))) (bare-each (λ m o. entries_of o ≡ []) refl (λ m s. refl) d)) _

  nothing-named : (m : ℕ) → names_of (bare_files inodes) m ≡ 0
  unfolding names_of
  nothing-named m = ap (count_by (λ (e : ℕ × Entry). e.1.number == m)) no_entries

  KeepsTree-bare : KeepsTree (bare_files inodes)
  unfolding folders
  KeepsTree-bare = record {
    root = record { links = 0; places = _; here = slot-root };
    sizes = bare-each (λ m o. KeepsSize o) (omega arith) (λ m s. tt);
    named = bare-each (λ m o. names_of (bare_files inodes) m ≡ names_for m o) (nothing-named 1)
        (λ m s. nothing-named m);
    nodes = bare-each (KeepsLive (bare_files inodes))
        (record {
          own = refl;
          up = 1;
          parent = refl;
          above = record { root = λ e. refl; names = λ s. absurd (s refl) };
          good = refl;
          once = λ name. omega arith;
          counted = refl;
        }) (λ m s. tt);
    depth = λ m. 0;
    ranked = λ d n h directory. absurd (omega (arith, h, names_by-le (bare_files inodes) d n, nothing-named n));
  }

  pub KeepsRules-bare : KeepsRules (bare_files inodes)
  KeepsRules-bare = KeepsRules-live KeepsTree-bare (bare-each (λ m o. (node : Node) → o ≡ Some node → 1 ≤ links_of node)
      (λ node e. subst (λ x. 1 ≤ links_of x) (same_Some (bare_directory 1 1) node e) (omega arith))
      (λ m s node e. absurd (none-some node e)))

  room_bare : blocks_of (bare_files inodes) ≡ 1
  room_bare =
      let e : inodes ≡ suc (suc (inodes - 2)) = omega arith in ap (λ k. blocks_of (bare_files k)) e ∙ bare-blocks _

  pub IsBegun-bare : (blocks : ℕ) → 1 ≤ blocks → IsBegun blocks inodes (bare_files inodes) 2
  IsBegun-bare blocks h = record {
    rules = KeepsRules-bare;
    count = length-bare;
    zero = slot-bare 0 (λ e. absurd (omega arith));
    used = λ m l u. let e : m ≡ 1 = omega arith in ap (λ k. is_some (slot (bare_files inodes) k)) e
        ∙ ap is_some slot-root;
    free = λ m l. slot-bare m (λ e. absurd (omega arith));
    next = omega arith;
    room = omega (arith, room_bare);
    packed = bare-each (λ m o. PackedAt o) (packed-node 1 1 Folder) (λ m s. tt);
  }

-- ---- a failed access is reported only where the device counts it

-- the fault that is returned
pub told_err : {T E : Type 0} {fault : E} (r : Result T E) → IsErrAnd r (λ f. f ≡ fault) → r ≡ Err fault
told_err r told = let err = err_from_is_err_and r told in err.1 ∙ ap Err err.2

pub err_is : {T E : Type 0} (a b : E) → ◌≡◌ {A = Result T E} (Err a) (Err b) → a ≡ b
err_is a b e = cc

-- an error is no success
pub none-done : {T E : Type 0} (P : Type 0) {r : Result T E} {fault : E} → r ≡ Err fault → OnOk r P
none-done {T} {E} P e = subst (λ (x : Result T E). OnOk x P) (sym e) tt

-- ---- the count of failures

module _ {F : Type 0} {fault : F} where
  -- an access failed, and those before were good
  pub Owns-failed : {T E : Type 0} {a b c : ℕ} {access : Result T E} {e : E} {r : Result (Unit {0}) F} → a ≤ b
      → HasCause b c access → access ≡ Err e → Owns fault a c r
  Owns-failed h cause was =
      record {
        later = let l = cause.later in omega arith;
        failed = λ _. let rises = cause.failed (ap is_err was) in omega arith;
      }

  -- the last step's count is that of both
  pub Owns-after : {a b c : ℕ} {r : Result (Unit {0}) F} → a ≤ b → Owns fault b c r → Owns fault a c r
  Owns-after h owns = record
      { later = let l = owns.later in omega arith; failed = λ e. let rises = owns.failed e in omega arith }

  -- a step returns its fault, and it is passed on
  pub Owns-told : {a b c : ℕ} {told : F} {r : Result (Unit {0}) F} → a ≤ b → Owns fault b c (Err told) → r ≡ Err told
      → Owns fault a c r
  Owns-told {a} {c = c} h owns is = subst (Owns fault a c) (sym is) (Owns-after h owns)

  pub Owns-done : {a c : ℕ} → a ≤ c → Owns fault a c (Ok tt)
  Owns-done h = record { later = h; failed = λ e. cc }

  -- another fault is returned
  pub Owns-other : {a c : ℕ} {other : F} {r : Result (Unit {0}) F} → a ≤ c → (other ≡ fault → ⊥) → r ≡ Err other
      → Owns fault a c r
  Owns-other {other = other} h differs is =
      record { later = h; failed = λ e. absurd (differs (err_is other fault (sym is ∙ e))) }

pub Blames-stored : {a b c : ℕ} {r : Result (Unit {0}) MakeFault} (fault : StoreFault) → a ≤ b
    → Owns Device b c (Err fault) → r ≡ Err (make_fault fault) → BlamesDevice a c r
Blames-stored Blocks h owns is = Owns-other (let l = owns.later in omega arith) (λ e. cc) is
Blames-stored Device h owns is =
    record { later = let l = owns.later in omega arith; failed = λ e. let rises = owns.failed refl in omega arith }

pub TellsFull-weaker : {P Q : Type 0} → (P → Q) → (told : StoreFault) → TellsFull P told → TellsFull Q told
TellsFull-weaker f Blocks h = f h
TellsFull-weaker f Device h = h

pub slot-put : (files : Files) (n : ℕ) (node : Node) → n < length files → slot (put files n node) n ≡ Some node
slot-put files n node h = get_or-set_same files n _ None h

-- ---- how a step ends

pub puts-done : {old now : FileTree} {n : ℕ} {node : Node} → IsNow old now (put old.files n node)
    → Puts old now n node (Ok tt)
puts-done is = record { done = is.is; owns = Owns-done is.later }

pub puts-full : {old now : FileTree} {files : Files} {n : ℕ} {node : Node} → IsNow old now files
    → LacksRoomFor old.block_limit old.files n node → Puts old now n node (Err Blocks)
puts-full is lacks = record { done = lacks; owns = Owns-other is.later (λ e. cc) refl }

module _ {old mid now : FileTree} {files : Files} (is : IsNow old mid files) {n : ℕ} {node : Node}
    {s : Result (Unit {0}) StoreFault} where
  -- an access failed
  pub puts-lost : {U E : Type 0} {r : Result U E} {e : E} → HasCause mid.failures now.failures r → r ≡ Err e
      → IsErrAnd s (λ f. f ≡ Device) → Puts old now n node s
  puts-lost cause was told =
      rw (told_err s told) (record {
        done = tt;
        owns = record {
          later = let l = is.later in let m = cause.later in omega arith;
          failed = λ _. rises-before is.later (cause.failed (ap is_err was));
        };
      })

-- ---- a node is put twice

module _ {old mid : FileTree} (n : ℕ) (a b : Node) (is : IsNow old mid (put old.files n a)) where
  twice : put mid.files n b ≡ put old.files n b
  twice = ap (λ (fs : Files). put fs n b) (now-files is) ∙ set-set _ n _ _

  limit : mid.block_limit ≡ old.block_limit
  limit = ap (λ (t : FileTree). t.block_limit) is.is

  pub puts-last : {new : FileTree} (r : Result (Unit {0}) StoreFault) → Puts mid new n b r → Puts old new n b r
  puts-last (Err fault) puts =
      record {
        done = TellsFull-weaker
            (λ lacks. elim lacks [
              | inl long ↦ inl long
              | inr full ↦ inr
                  (omega (arith, full, ap blocks_of twice, limit))
            ])
            fault puts.done;
        owns = Owns-after is.later puts.owns;
      }
  puts-last {new} (Ok u) puts = record {
    done = puts.done ∙ ap (λ (t : FileTree). record t { files = put mid.files n b; failures = new.failures }) is.is
        ∙ ap (λ (fs : Files). record old { files = fs; failures = new.failures }) twice;
    owns = Owns-after is.later puts.owns;
  }

-- ---- a number is taken for a thing

pub took-thing : {old now : FileTree} (number : ℕ) {o : Option Node} {node : Node} → o ≡ Some node
    → IsNow old now (set old.files number o) → IsNow old now (put old.files number node)
took-thing {old} {now} number is took = subst (λ o. IsNow old now (set old.files number o)) is took

-- it is at its number, and what other numbers hold stays
module _ {old mid : FileTree} {number : ℕ} (node : Node) (free : IsUnnamed old.files number)
    (is : IsNow old mid (put old.files number node)) where
  pub here-now : slot mid.files number ≡ Some node
  here-now = ap (λ (fs : Files). slot fs number) (now-files is) ∙ slot-put _ number node free.high

  pub still-used : (d : ℕ) → slot old.files d ≢ None → slot mid.files d ≢ None
  still-used d some none =
      some (sym (get_or-set_other _ number d _ None (λ e. some (ap (slot old.files) e ∙ free.unused)))
      ∙ sym (ap (λ (fs : Files). slot fs d) (now-files is)) ∙ none)

-- ---- the first two entries of a directory

pub lacks-dots : (limit : ℕ) (files : Files) (n d : ℕ) → slot files n ≡ Some (Directory 1 [])
    → limit < blocks_of files + 1 → LacksRoomFor limit files n (bare_directory n d)
lacks-dots limit files n d here few =
    let b = blocks_of-set files n (Some (bare_directory n d)) (slot-within files n (Directory 1 []) here) in
    let was : taken_by (slot files n) ≡ 0 = ap taken_by here in
    let now : taken_by (Some (bare_directory n d)) ≡ 1 = refl in
    inr (omega arith)

-- ---- the root

module _ (t : FileTree) (none : t.files ≡ free_slots (length t.files)) (some : 2 ≤ length t.files) where
  pub root-free : IsUnnamed t.files 1
  root-free = record {
    low = omega arith;
    high = omega arith;
    unused = ap (λ (fs : Files). slot fs 1) none
        ∙ slot-free _ 1;
  }

  module _ {mid : FileTree} (is : IsNow t mid (put t.files 1 (Directory 1 []))) where
    pub root-bare : slot mid.files 1 ≡ Some (Directory 1 [])
    root-bare = here-now _ root-free is

    -- no block is taken
    pub root-block : 1 ≤ t.block_limit → blocks_of mid.files + 1 ≤ mid.block_limit
    root-block room =
        omega (
          arith,
          ap blocks_of (now-files is),
          fresh-blocks t.files 1 (Directory 1 []) (record { free = root-free.unused; within = root-free.high }) refl,
          ap blocks_of none,
          no-files (length t.files),
          now-limit is,
        )

    pub root-made : put mid.files 1 (bare_directory 1 1) ≡ bare_files (length t.files)
    unfolding bare_files
    root-made =
        ap (λ (fs : Files). put fs 1 (bare_directory 1 1)) (now-files is) ∙ set-set t.files 1 _ _
        ∙ ap (λ (fs : Files). put fs 1 (bare_directory 1 1)) none
