-- The open files are counted by the descriptors that name them, where descriptors come and go.
use Rattle.kernel.proofs.Common.{file-opens, None, Option, Some, [], ap, arith, length, refl, suc, sym, ℕ, ℤ, ◌+◌, ◌<◌}
use Rattle.kernel.proofs.Common.{◌≡◌, ◌≤◌, ◌∙◌, ◌∷◌, SpaceView, map, option_map, none-some, length-map, sum_by-cons}
use Rattle.kernel.proofs.Common.{sum_by-set, IsCounted, all_closed, all_shared, closed_in, named_by, names_in}
use Rattle.kernel.proofs.Common.{shared_in, slot-within, names, one_in, count-closed, count-shared, names-none, file_of}
use Rattle.kernel.proofs.Common.{Counted, IsTable, closed, count_at, file_at, opens_of, shared, all-set, Process}
use Rattle.kernel.proofs.Common.{orphaned, zombie_of, put, slot, Kernel, IsKernel, IsLive, IsMode, IsPlace, Mode, Ready}
use Rattle.kernel.proofs.Common.{Running, Waiting, Zombie, Memory, ◌*◌, count_by-le-length, is_same, one_at-self}
use Rattle.kernel.proofs.Holding.{sum-put, map-same, orphan-by, same-map, slot-map, Fds, Opens, Processes}
use Rattle.kernel.proofs.Releasing.{AreOld}
use Rattle.files.specs.declared.file.OpenFile.{OpenFile}
use Rattle.unixmodel.specs.OpenFiles as unix
use Rattle.files.proofs.Whole.{fewer-from, opens-shared, table-closed}

-- ---- descriptors that a table counts

-- each open file is counted as often as these descriptors name it, or more often
abbrev pub AreNamed : Opens → Fds → Type 0
AreNamed t ds = (n : ℕ) → names n ds ≤ count_at t n

names-cons : (n : ℕ) (d : Option ℕ) (ds : Fds) → names n (d ∷ ds) ≡ one_in n d + names n ds
names-cons n d ds = sum_by-cons (one_in n) d ds

pub first-named : (t : Opens) (n : ℕ) (ds : Fds) → AreNamed t (Some n ∷ ds) → 0 < count_at t n
first-named t n ds are = omega (arith, are n, names-cons n (Some n) ds, one_at-self n)

-- those of a process are counted
pub names-counted : (t : Opens) (places : Processes) (i : ℕ) (p : Process) → IsCounted t places
    → slot places i ≡ Some p → AreNamed t p.descriptors
names-counted t places i p counted at n =
    let sums = sum_by-set (names_in n) _ i None None (slot-within _ i p at) in
    let one : names_in n (slot places i) ≡ names n p.descriptors = ap (names_in n) at in
    omega (arith, counted n, sums, one)

-- ---- fork

count-share : (t : Opens) (d : Option ℕ) (ds : Fds) → AreNamed t (d ∷ ds) → (n : ℕ)
    → count_at (shared_in t d) n ≡ count_at t n + one_in n d
count-share t None ds are n = omega arith
count-share t (Some k) ds are n = count-shared t k (first-named t k ds are) n

pub count-all_shared : (t : Opens) (ds : Fds) → AreNamed t ds → (n : ℕ)
    → count_at (all_shared t ds) n ≡ count_at t n + names n ds
count-all_shared t [] are n = omega arith
count-all_shared t (d ∷ ds) are n =
    let rest = count-all_shared (shared_in t d) ds
    (λ m. omega (arith, are m, names-cons m d ds, count-share t d ds are m)) n in
    omega (arith, rest, names-cons n d ds, count-share t d ds are n)

pub kept-all_shared : (P : Opens → Type 0) → ((t : Opens) (n : ℕ) → P t → P (shared t n)) → (t : Opens) (ds : Fds)
    → P t → P (all_shared t ds)
kept-all_shared P step t [] is = is
kept-all_shared P step t (None ∷ ds) is = kept-all_shared P step t ds is
kept-all_shared P step t (Some n ∷ ds) is = kept-all_shared P step (shared t n) ds (step t n is)

-- the open files are the same
pub opens-all_shared : (t : Opens) (ds : Fds) → opens_of (all_shared t ds) ≡ opens_of t
opens-all_shared t ds = kept-all_shared (λ u. opens_of u ≡ opens_of t) (λ u n same. opens-shared u n ∙ same) t ds refl

-- the table counts the descriptors of a child too, which are those of process i
pub counted-forked : (t : Opens) (places : Processes) (i j : ℕ) (p child : Process) → IsCounted t places
    → slot places i ≡ Some p → j < length places → slot places j ≡ None
    → child.descriptors ≡ p.descriptors → IsCounted (all_shared t p.descriptors) (put places j child)
counted-forked t places i j p child counted at short free same n =
    let names_same : names n child.descriptors ≡ names n p.descriptors = ap (names n) same in
    let all = count-all_shared t p.descriptors (names-counted t places i p counted at) n in
    omega (arith, counted n, sum-put (names_in n) places j child short free refl, names_same, all)

-- ---- the end of a process

count-close : (t : Opens) (d : Option ℕ) (ds : Fds) → AreNamed t (d ∷ ds) → (n : ℕ)
    → count_at (closed_in t d) n + one_in n d ≡ count_at t n
count-close t None ds are n = omega arith
count-close t (Some k) ds are n = count-closed t k (first-named t k ds are) n

pub count-all_closed : (t : Opens) (ds : Fds) → AreNamed t ds → (n : ℕ)
    → count_at (all_closed t ds) n + names n ds ≡ count_at t n
count-all_closed t [] are n = omega arith
count-all_closed t (d ∷ ds) are n =
    let rest = count-all_closed (closed_in t d) ds
    (λ m. omega (arith, are m, names-cons m d ds, count-close t d ds are m)) n in
    omega (arith, rest, names-cons n d ds, count-close t d ds are n)

pub kept-all_closed : (P : Opens → Type 0) → ((t : Opens) (n : ℕ) → P t → P (closed t n)) → (t : Opens) (ds : Fds) → P t
    → P (all_closed t ds)
kept-all_closed P step t [] is = is
kept-all_closed P step t (None ∷ ds) is = kept-all_closed P step t ds is
kept-all_closed P step t (Some n ∷ ds) is = kept-all_closed P step (closed t n) ds (step t n is)

pub table-all_closed : (t : Opens) (ds : Fds) → IsTable t → IsTable (all_closed t ds)
table-all_closed t ds is = kept-all_closed IsTable table-closed t ds is

old-closed : (t : Opens) (n : ℕ) → AreOld t (closed t n)
old-closed t n =
    all-set (λ k o. (c : Counted) → o ≡ Some c → (d : Counted) × ((slot t k ≡ Some d) × (d.file ≡ c.file))) t n _
    (fewer-from _) (λ k c at. (c, (at, refl)))

pub old-all_closed : (t : Opens) (ds : Fds) → AreOld t (all_closed t ds)
old-all_closed t ds = kept-all_closed (AreOld t)
    (λ u n old k x at. let mid = old-closed u n k x at in let was = old k mid.0 mid.1.0
    in (was.0, (was.1.0, was.1.1 ∙ mid.1.1))) t ds (λ k c at. (c, (at, refl)))

-- the open files that are left were there
pub files-all_closed : (t : Opens) (ds : Fds) (n : ℕ) (f : OpenFile) → file_at (all_closed t ds) n ≡ Some f
    → file_at t n ≡ Some f
files-all_closed t ds n f at = go _ refl at where
  go : (o : Option Counted) → slot (all_closed t ds) n ≡ o → option_map (λ (c : Counted). c.file) o ≡ Some f
      → file_at t n ≡ Some f
  go None is h = absurd (none-some f h)
  go (Some c) is h = let was = old-all_closed t ds n c is in ap (option_map (λ (d : Counted). d.file)) was.1.0
      ∙ ap Some was.1.1 ∙ h

pub opens-all_closed : (t : Opens) (ds : Fds) (n : ℕ) (f : unix.OpenFile) → slot (opens_of (all_closed t ds)) n ≡ Some f
    → slot (opens_of t) n ≡ Some f
opens-all_closed t ds n f at = go _ refl (sym (file-opens _ n) ∙ at) where
  go : (o : Option OpenFile) → file_at (all_closed t ds) n ≡ o → option_map file_of o ≡ Some f
      → slot (opens_of t) n ≡ Some f
  go None is h = absurd (none-some f h)
  go (Some g) is h = file-opens t n ∙ ap (option_map file_of) (files-all_closed t ds n g is) ∙ h

-- ---- the counts of an ended process's table

-- an orphan has the old value
pub orphan-same : {X : Type 0} (f : Option Process → X) (pid : ℕ)
    → ((p : Process) (parent : ℕ) → f (Some (record p { parent = parent })) ≡ f (Some p)) → (o : Option Process)
    → f (option_map (orphaned pid) o) ≡ f o
orphan-same f pid same = map-same f (orphaned pid) (λ p. orphan-by (λ q. f (Some q) ≡ f (Some p)) pid p (same p))

orphaned-names : (pid n : ℕ) (o : Option Process) → names_in n (option_map (orphaned pid) o) ≡ names_in n o
orphaned-names pid n = orphan-same _ pid (λ p parent. refl)

-- once process i has ended, the table counts the descriptors of all the others
pub counted-ended : (t : Opens) (places : Processes) (i : ℕ) (p : Process) (status : ℤ) → IsCounted t places
    → slot places i ≡ Some p
    → IsCounted (all_closed t p.descriptors) (put (map (option_map (orphaned p.pid)) places) i (zombie_of p status))
counted-ended t places i p status counted at n =
    let orphans : Processes = map (option_map (orphaned p.pid)) places in
    let short : i < length orphans = rw (length-map places (option_map (orphaned p.pid))) (slot-within places i p at) in
    let sums = sum_by-set (names_in n) orphans i (Some (zombie_of p status)) None short in
    let there : names_in n (slot orphans i) ≡ names n p.descriptors =
    ap (names_in n) (slot-map (orphaned p.pid) places i) ∙ orphaned-names p.pid n (slot places i)
    ∙ ap (names_in n) at in
    let closed_all = count-all_closed t p.descriptors (names-counted t places i p counted at) n in
    omega (
      arith,
      closed_all,
      counted n,
      sums,
      there,
      same-map (names_in n) (orphaned p.pid) (orphaned-names p.pid n) places,
      names-none n,
    )

-- ---- no open file is named by many descriptors

live-few : (n : ℕ) (p : Process) → IsLive p → names n p.descriptors ≤ 16
live-few n p is = omega (arith, count_by-le-length (is_same n) p.descriptors, is.descriptors)

mode-few : (n : ℕ) (p : Process) (memory : Memory) (mode : Mode) → IsMode p memory mode → names n p.descriptors ≤ 16
mode-few n p memory Running is = live-few n p is.0
mode-few n p memory Ready is = live-few n p is
mode-few n p memory (Waiting w) is = live-few n p is.0
mode-few n p memory (Zombie status) is = let none : names n p.descriptors ≡ 0 = ap (names n) is.descriptors
    ∙ names-none n in omega (arith, none)

place-few : (n : ℕ) (o : Option Process) (q : Option SpaceView) → IsPlace o q → names_in n o ≤ 16
place-few n None q is = omega arith
place-few n (Some p) None is = absurd is
place-few n (Some p) (Some h) is = mode-few n p _ _ is.mode

sum-few : (n : ℕ) (os : Processes) → ((j : ℕ) → names_in n (slot os j) ≤ 16) → named_by os n ≤ 16 * length os
sum-few n [] few = omega arith
sum-few n (o ∷ os) few = omega (arith, sum_by-cons (names_in n) o os, few 0, sum-few n os (λ j. few (suc j)))

-- no more than 64 processes with 16 descriptors name an open file
pub counts-few : (k : Kernel) → IsKernel k → (n : ℕ) → count_at k.files n ≤ 1024
counts-few k is n =
    let few = sum-few n _ (λ j. place-few n _ _ (is.stands j)) in
    omega (arith, few, is.opened.counted n, is.all)
