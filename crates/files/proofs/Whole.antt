-- The table in the abstract Unix's state: its open files are the state's, and what is left of the table
-- where descriptors go is what a state is left with where nothing names the others any more.
use Rattle.files.proofs.Common.{none-some, Bool, List, None, Option, Some, [], cond, is_none, map, not, option_map}
use Rattle.files.proofs.Common.{slice_set, suc, zero, ℕ, ◌+◌, ◌≡◌, ◌||◌, ◌∷◌, list_any, prefix_len, ap, refl}
use Rattle.files.proofs.Common.{length-map, free_slot, slot, taken, holds, count_by, false, length, nat_lt}
use Rattle.files.proofs.Common.{option_and_then, sum_by, true, ◌<◌, ◌≢◌, ◌==◌, arith, get_or-set_other, get_or-set_same}
use Rattle.files.proofs.Common.{inl, inr, ◌∙◌, cases_eq, cases_lt, le-ltb, lt-ltb, sum_by-cons, sum_by-set, Counted}
use Rattle.files.proofs.Common.{closed, count_at, count_in, fewer, more, moved, moved_in, opened, shared, clear}
use Rattle.files.proofs.Common.{free_slots, put, is_described, is_same, State, ◌-◌, ◌≤◌, ap₂, length-set, sym, map-set}
use Rattle.files.proofs.Common.{get_or-map, file_of, IsTable, file_at, opens_of, kept, without_opens}
use Rattle.std.proofs.lemmas.Bool.Decides.{nat_tests}
use Rattle.std.proofs.lemmas.List.Folds.{sum_by-replicate}
use Rattle.files.specs.declared.file.OpenFile.{OpenFile}
use Rattle.unixmodel.specs.Outcome.{no_descriptors}
use Rattle.unixmodel.specs.Process.{Process}
use Rattle.files.specs.Counts.{names, one_in}
use Rattle.std.proofs.Math.Seq.{map-set_same}
use Rattle.files.specs.declared.file.Target.TheVariants as target
use Rattle.unixmodel.specs.OpenFiles as unix
pub use Rattle.std.proofs.lemmas.List.{set_past as set_outside}

-- the slots of a table
abbrev pub Table : Type 0
Table = List (Option Counted)

-- ---- slots, and a function of what they hold

-- what holds of each slot, where one has another
pub all-set : {X : Type 0} (P : ℕ → Option X → Type 0) (xs : List (Option X)) (i : ℕ) (o : Option X) → P i o
    → ((j : ℕ) → P j (slot xs j)) → (j : ℕ) → P j (slot (slice_set xs i o) j)
all-set P [] i o here is j = is j
all-set P (x ∷ xs) zero o here is zero = here
all-set P (x ∷ xs) zero o here is (suc j) = is (suc j)
all-set P (x ∷ xs) (suc i) o here is zero = is 0
all-set P (x ∷ xs) (suc i) o here is (suc j) = all-set (λ n. P (suc n)) xs i o here (λ n. is (suc n)) j

module _ {X Y : Type 0} (f : X → Y) where
  -- the same slot is free
  is_none-told : (x : Option X) → is_none (option_map f x) ≡ is_none x
  is_none-told None = refl
  is_none-told (Some x) = refl

  prefix_len-told : (xs : List (Option X))
      → prefix_len (λ o. not (is_none o)) (map (option_map f) xs) ≡ prefix_len (λ o. not (is_none o)) xs
  prefix_len-told [] = refl
  prefix_len-told (x ∷ xs) = rw (is_none-told x) (ap (λ n. cond (not (is_none x)) (1 + n) 0) (prefix_len-told xs))

  pub free_slot-told : (xs : List (Option X)) → free_slot (map (option_map f) xs) ≡ free_slot xs
  free_slot-told xs = rw (prefix_len-told xs, length-map xs (option_map f)) refl

  -- what some slot holds passes
  pub any-told : (test : Y → Bool) (xs : List (Option X))
      → list_any test (taken (map (option_map f) xs)) ≡ list_any (holds (λ x. test (f x))) xs
  any-told test [] = refl
  any-told test (None ∷ xs) = any-told _ xs
  any-told test (Some x ∷ xs) = ap (λ b. test (f x) || b) (any-told _ xs)

-- ---- lemmas on what `specs/Counts` defines

abbrev pub names_in : ℕ → Option Process → ℕ
names_in k None = 0
names_in k (Some p) = names k p.descriptors

-- how many descriptors of all processes do
abbrev pub count_of : List (Option Process) → ℕ → ℕ
count_of places k = sum_by (names_in k) places

-- the table counts the descriptors of these processes
abbrev pub Counts : Table → List (Option Process) → Type 0
Counts t places = (k : ℕ) → count_at t k ≡ count_of places k

-- 1 where the number is k, and where the descriptor names it
abbrev pub one_at : ℕ → ℕ → ℕ
one_at k n = cond (n == k) 1 0

-- ---- descriptors

-- a free descriptor takes a number
pub names-put : (k : ℕ) (ds : List (Option ℕ)) (fd n : ℕ) → fd < length ds → slot ds fd ≡ None
    → names k (put ds fd n) ≡ names k ds + one_at k n
names-put k ds fd n h free =
    let sums = sum_by-set (one_in k) ds fd (Some n) None h in
    let none : one_in k (slot ds fd) ≡ 0 = rw free refl in
    omega (arith, sums, none)

-- a descriptor is given up
pub names-clear : (k : ℕ) (ds : List (Option ℕ)) (fd n : ℕ) → fd < length ds → slot ds fd ≡ Some n
    → names k (clear ds fd) + one_at k n ≡ names k ds
names-clear k ds fd n h named =
    let sums = sum_by-set (one_in k) ds fd None None h in
    let one : one_in k (slot ds fd) ≡ one_at k n = rw named refl in
    omega (arith, sums, one)

-- free descriptors name nothing
pub names-free : (k n : ℕ) → names k (free_slots n) ≡ 0
unfolding free_slots
names-free k n = sum_by-replicate (one_in k) n _ ∙ omega arith

pub names-none : (k : ℕ) → names k no_descriptors ≡ 0
unfolding no_descriptors
names-none k = names-free k 16

-- ---- the table

pub one_at-self : (k : ℕ) → one_at k k ≡ 1
one_at-self k = grind (arith, nat_tests)

one_at-other : {k n : ℕ} → k ≢ n → one_at k n ≡ 0
one_at-other h = grind (arith, nat_tests)

-- at slot i, and at each other, where i has another
count-set : (t : Table) {i : ℕ} (o : Option Counted) (P : ℕ → ℕ → Type 0) → i < length t → P i (count_in o)
    → ((k : ℕ) → k ≢ i → P k (count_at t k)) → (k : ℕ) → P k (count_at (slice_set t i o) k)
count-set t {i} o P h here others k = elim (cases_eq k i) [
  | inl same ↦ rw (same, get_or-set_same t i o None h) here
  | inr other ↦ rw (get_or-set_other t i k o None other) (others k other)
]

-- an open file takes a free slot
pub count-opened : (t : Table) (i : ℕ) (f : OpenFile) → i < length t → slot t i ≡ None → (k : ℕ)
    → count_at (opened t i f) k ≡ count_at t k + one_at k i
count-opened t i f h free =
    count-set t _ (λ k n. n ≡ count_at t k + one_at k i) h (rw (free, one_at-self i) refl)
    (λ k other. rw (one_at-other other) (omega arith))

within-count : (t : Table) (i : ℕ) → 0 < count_at t i → i < length t
within-count [] i h = absurd (omega (arith, h))
within-count (x ∷ t) zero h = omega arith
within-count (x ∷ t) (suc i) h = omega (arith, within-count t i h)

count-more : (o : Option Counted) → 0 < count_in o → count_in (option_map more o) ≡ count_in o + 1
count-more None h = absurd (omega (arith, h))
count-more (Some c) h = refl

-- one descriptor more names an open file
pub count-shared : (t : Table) (i : ℕ) → 0 < count_at t i → (k : ℕ)
    → count_at (shared t i) k ≡ count_at t k + one_at k i
count-shared t i h =
    count-set t _ (λ k n. n ≡ count_at t k + one_at k i) (within-count t i h) (rw (one_at-self i) (count-more _ h))
    (λ k other. rw (one_at-other other) (omega arith))

count-fewer : (o : Option Counted) → 0 < count_in o → count_in (option_and_then fewer o) + 1 ≡ count_in o
count-fewer None h = absurd (omega (arith, h))
count-fewer (Some c) h = elim (cases_lt 1 c.count) [
  | inl more ↦ rw (lt-ltb 1 c.count more) (omega (arith, more))
  | inr one ↦ rw (le-ltb 1 c.count one) (omega (arith, one, h))
]

-- one descriptor fewer does
pub count-closed : (t : Table) (i : ℕ) → 0 < count_at t i → (k : ℕ)
    → count_at (closed t i) k + one_at k i ≡ count_at t k
count-closed t i h =
    count-set t (option_and_then fewer (slot t i)) (λ k n. n + one_at k i ≡ count_at t k) (within-count t i h)
    (rw (one_at-self i) (count-fewer (slot t i) h)) (λ k other. rw (one_at-other other) (omega arith))

count-in_moved : (offset : ℕ) (o : Option Counted) → count_in (option_map (moved_in offset) o) ≡ count_in o
count-in_moved offset None = refl
count-in_moved offset (Some c) = refl

-- where it goes on from another offset, as many do
pub count-moved : (t : Table) (i offset k : ℕ) → count_at (moved t i offset) k ≡ count_at t k
count-moved t i offset =
    all-set (λ k o. count_in o ≡ count_at t k) t i (option_map (moved_in offset) (slot t i))
    (count-in_moved offset (slot t i)) (λ k. refl)

-- ---- some descriptor names it exactly where the count isn't 0

pub lt-sum : (m n : ℕ) → nat_lt 0 (m + n) ≡ (nat_lt 0 m || nat_lt 0 n)
lt-sum m n = elim (cases_lt 0 m) [
  | inl some ↦ rw (lt-ltb 0 m some) (lt-ltb 0 (m + n) (omega (arith, some)))
  | inr none ↦ (let gone : m + n ≡ n = omega (arith, none) in rw (le-ltb 0 m none, gone) refl)
]

pub lt-one : (b : Bool) → nat_lt 0 (cond b 1 0) ≡ b
lt-one true = refl
lt-one false = refl

any-count : {X : Type 0} (test : X → Bool) (xs : List X) → list_any test xs ≡ nat_lt 0 (count_by test xs)
any-count test [] = refl
any-count test (x ∷ xs) =
    rw (sum_by-cons (λ y. cond (test y) 1 0) x xs, lt-sum (cond (test x) 1 0) (count_by test xs), lt-one (test x))
    (ap (λ b. test x || b) (any-count _ xs))

abbrev pub is_named_by : ℕ → Process → Bool
is_named_by k p = list_any (is_same k) p.descriptors

any-described : (k : ℕ) (places : List (Option Process))
    → list_any (is_named_by k) (taken places) ≡ nat_lt 0 (count_of places k)
any-described k [] = refl
any-described k (None ∷ ps) = rw (sum_by-cons (names_in k) None ps, lt-sum 0 (count_of ps k)) (any-described k ps)
any-described k (Some p ∷ ps) =
    rw (
      sum_by-cons (names_in k) (Some p) ps,
      lt-sum (names k p.descriptors) (count_of ps k),
      ← any-count (is_same k) p.descriptors,
    ) (ap (λ b. is_named_by k p || b) (any-described k ps))

pub described-count : (s : State) (k : ℕ) → is_described s k ≡ nat_lt 0 (count_of s.places k)
described-count s k = any-described k s.places

abbrev file_in : Counted → unix.OpenFile
file_in c = file_of c.file

-- ---- the open files of a table

pub length-opens : (t : Table) → length (opens_of t) ≡ length t
length-opens t = length-map t (option_map file_in)

pub slot-opens : (t : Table) (i : ℕ) → slot (opens_of t) i ≡ option_map file_in (slot t i)
slot-opens t i = get_or-map (option_map file_in) t i None

file_in-file : (o : Option Counted) → option_map file_in o ≡ option_map file_of (option_map (λ (c : Counted). c.file) o)
file_in-file None = refl
file_in-file (Some c) = refl

pub file-opens : (t : Table) (i : ℕ) → slot (opens_of t) i ≡ option_map file_of (file_at t i)
file-opens t i = slot-opens t i ∙ file_in-file _

pub free_slot-opens : (t : Table) → free_slot (opens_of t) ≡ free_slot t
free_slot-opens t = free_slot-told file_in t

-- an open file takes a slot
pub opens-opened : (t : Table) (i : ℕ) (f : OpenFile) → opens_of (opened t i f) ≡ put (opens_of t) i (file_of f)
opens-opened t i f = map-set (option_map file_in) t i (Some (record { file = f; count = 1 }))

-- the open files are the same where only counts change
file_in-more : (o : Option Counted) → option_map file_in (option_map more o) ≡ option_map file_in o
file_in-more None = refl
file_in-more (Some c) = refl

pub opens-shared : (t : Table) (i : ℕ) → opens_of (shared t i) ≡ opens_of t
opens-shared t i = map-set_same (option_map file_in) t i (option_map more (slot t i)) None (file_in-more _)

file_in-fewer : (o : Option Counted) → 1 < count_in o
    → option_map file_in (option_and_then fewer o) ≡ option_map file_in o
file_in-fewer None h = absurd (omega (arith, h))
file_in-fewer (Some c) h = rw (lt-ltb 1 c.count h) refl

-- other descriptors still name it
pub opens-closed : (t : Table) (i : ℕ) → 1 < count_at t i → opens_of (closed t i) ≡ opens_of t
opens-closed t i h = map-set_same (option_map file_in) t i (option_and_then fewer (slot t i)) None (file_in-fewer _ h)

gone-fewer : (o : Option Counted) → count_in o ≤ 1 → option_and_then fewer o ≡ None
gone-fewer None h = refl
gone-fewer (Some c) h = rw (le-ltb 1 c.count h) refl

-- it was the last one
pub opens-closed_last : (t : Table) (i : ℕ) → count_at t i ≤ 1 → opens_of (closed t i) ≡ clear (opens_of t) i
opens-closed_last t i h = ap (λ o. opens_of (slice_set t i o)) (gone-fewer (slot t i) h)
    ∙ map-set (option_map file_in) t i None

-- it is read and written from another offset on
file_in-moved : (offset number old : ℕ) (o : Option Counted) (f : OpenFile)
    → option_map (λ (c : Counted). c.file) o ≡ Some f → f.target ≡ target.File number old
    → option_map file_in (option_map (moved_in offset) o)
    ≡ Some (record (file_of f) { target = unix.OnNode number offset })
file_in-moved offset number old None f at on = absurd (none-some f at)
file_in-moved offset number old (Some c) f at on =
    let same : c.file ≡ f = cc in
    rw (same, on) refl

pub opens-moved : (t : Table) (i offset number old : ℕ) (f : OpenFile) → file_at t i ≡ Some f
    → f.target ≡ target.File number old
    → opens_of (moved t i offset) ≡ put (opens_of t) i (record (file_of f) { target = unix.OnNode number offset })
opens-moved t i offset number old f at on =
    map-set (option_map file_in) t i (option_map (moved_in offset) (slot t i))
    ∙ ap (λ o. slice_set (opens_of t) i o) (file_in-moved _ _ _ _ f at on)

-- ---- a table stays one

table-set : {t : Table} (i : ℕ) {o : Option Counted} → IsTable t → ((c : Counted) → o ≡ Some c → 0 < c.count)
    → IsTable (slice_set t i o)
table-set {t} i {o} is here = record {
  all = length-set t i o ∙ is.all;
  named = all-set (λ k x. (c : Counted) → x ≡ Some c → 0 < c.count) t i o here is.named;
}

pub table-opened : (t : Table) (i : ℕ) (f : OpenFile) → IsTable t → IsTable (opened t i f)
table-opened t i f is = table-set i is (λ c at. let one : 1 ≡ c.count = ap count_in at in omega (arith, one))

more-named : (o : Option Counted) (c : Counted) → option_map more o ≡ Some c → 0 < c.count
more-named None c at = absurd (none-some c at)
more-named (Some d) c at = let one : d.count + 1 ≡ c.count = ap count_in at in omega (arith, one)

pub table-shared : (t : Table) (i : ℕ) → IsTable t → IsTable (shared t i)
table-shared t i is = table-set i is (more-named _)

moved-named : (offset : ℕ) (o : Option Counted) (c : Counted) → ((d : Counted) → o ≡ Some d → 0 < d.count)
    → option_map (moved_in offset) o ≡ Some c → 0 < c.count
moved-named offset None c each at = absurd (none-some c at)
moved-named offset (Some d) c each at = let same : d.count ≡ c.count =
    ap count_in at in omega (arith, each d refl, same)

pub table-moved : (t : Table) (i offset : ℕ) → IsTable t → IsTable (moved t i offset)
table-moved t i offset is = table-set i is (λ c at. moved-named _ (slot t i) c (is.named i) at)

fewer-named : (o : Option Counted) (c : Counted) → option_and_then fewer o ≡ Some c → 0 < c.count
fewer-named None c at = absurd (none-some c at)
fewer-named (Some d) c at = elim (cases_lt 1 d.count) [
  | inl more ↦ (let one : d.count - 1 ≡ c.count = ap count_in (rw (lt-ltb 1 d.count more) at at)
      in omega (arith, one, more))
  | inr last ↦ absurd (none-some c (rw (le-ltb 1 d.count last) at at))
]

pub table-closed : (t : Table) (i : ℕ) → IsTable t → IsTable (closed t i)
table-closed t i is = table-set i is (fewer-named (slot t i))

-- ---- what is left

-- the table holds no open file that the old one did not hold there
pub record IsLeft (old new : Table) : Type 0 where
  pub all : length new ≡ length old
  pub each : (i : ℕ) (c : Counted) → slot new i ≡ Some c → slot (opens_of old) i ≡ Some (file_of c.file)

pub left-same : (t : Table) → IsLeft t t
left-same t = record { all = refl; each = λ i c at. slot-opens t i ∙ ap (option_map file_in) at }

pub fewer-from : (o : Option Counted) (c : Counted) → option_and_then fewer o ≡ Some c
    → (d : Counted) × ((o ≡ Some d) × (d.file ≡ c.file))
fewer-from None c at = absurd (none-some c at)
fewer-from (Some d) c at = elim (cases_lt 1 d.count) [
  | inl more ↦ (let is : record d { count = d.count - 1 }
      ≡ c = (let both : Some (record d { count = d.count - 1 }) ≡ Some c = rw (lt-ltb 1 d.count more) at at in cc)
      in (d, (refl, ap (λ e. e.file) is)))
  | inr last ↦ absurd (none-some c (rw (le-ltb 1 d.count last) at at))
]

pub left-closed : (old new : Table) (i : ℕ) → IsLeft old new → IsLeft old (closed new i)
left-closed old new i left = record {
  all = length-set new i (option_and_then fewer (slot new i)) ∙ left.all;
  each = all-set (λ k o. (c : Counted) → o ≡ Some c → slot (opens_of old) k ≡ Some (file_of c.file)) new i
      (option_and_then fewer (slot new i))
      (λ c at. let from = fewer-from (slot new i) c at in left.each i from.0 from.1.0
      ∙ ap (λ f. Some (file_of f)) from.1.1)
      left.each;
}

-- ---- reaping

-- what is kept of a slot
abbrev pub kept_in : {X : Type 0} → (ℕ → X → Bool) → ℕ → Option X → Option X
kept_in test k None = None
kept_in test k (Some x) = cond (test k x) (Some x) None

pub kept-each : {X : Type 0} (test : ℕ → X → Bool) (xs ys : List (Option X)) (k : ℕ) → length ys ≡ length xs
    → ((i j : ℕ) → j ≡ k + i → kept_in test j (slot xs i) ≡ slot ys i) → kept test k xs ≡ ys
kept-each test [] [] k all each = refl
kept-each test [] (y ∷ ys) k all each = absurd (omega (arith, all))
kept-each test (x ∷ xs) [] k all each = absurd (omega (arith, all))
kept-each test (None ∷ xs) (y ∷ ys) k all each =
    ap₂ ◌∷◌ (each 0 k (omega arith))
    (kept-each _ xs ys _ (omega (arith, all)) (λ i j e. each (suc i) j (omega (arith, e))))
kept-each test (Some x ∷ xs) (y ∷ ys) k all each =
    ap₂ ◌∷◌ (each 0 k (omega arith))
    (kept-each _ xs ys _ (omega (arith, all)) (λ i j e. each (suc i) j (omega (arith, e))))

kept-none : (test : ℕ → unix.OpenFile → Bool) (k : ℕ) (o : Option unix.OpenFile)
    → ((f : unix.OpenFile) → test k f ≡ false) → kept_in test k o ≡ None
kept-none test k None fails = refl
kept-none test k (Some f) fails = rw (fails f) refl

abbrev described : State → ℕ → unix.OpenFile → Bool
described s k f = is_described s k

-- of a slot whose count is that of its descriptors the state keeps what the table kept
kept-place : (s : State) (k : ℕ) {old : Option unix.OpenFile} (new : Option Counted)
    → count_in new ≡ count_of s.places k
    → ((c : Counted) → new ≡ Some c → (old ≡ Some (file_of c.file)) × (0 < c.count))
    → kept_in (described s) k old ≡ option_map file_in new
kept-place s k {old} None count held = kept-none (described s) k old (λ f. rw (described-count s k, ← count) refl)
kept-place s k (Some c) count held =
    let both = held c refl in
    rw (both.0, described-count s k, lt-ltb 0 (count_of s.places k) (omega (arith, count, both.1))) refl

-- where the table's counts are those of the descriptors, the state keeps of its open files what is left of the table
pub kept-left : (s : State) {old new : Table} → IsTable new → IsLeft old new → Counts new s.places
    → kept (λ k f. is_described s k) 0 (opens_of old) ≡ opens_of new
kept-left s {old} {new} is left counts =
    kept-each _ _ (opens_of new) 0 (length-opens _ ∙ left.all ∙ sym (length-opens _))
    (λ i j e.
    let same : j ≡ i = omega (arith, e) in
    rw (same, slot-opens new i) (kept-place s i (slot new i) (counts i) (λ c at. (left.each i c at, is.named i c at))))

-- a state with the open files of a table is left with those of what is left of it
pub without_opens-left : (s : State) (old new : Table) → IsTable new → IsLeft old new → Counts new s.places
    → without_opens (record s { opens = opens_of old }) ≡ record s { opens = opens_of new }
unfolding without_opens
without_opens-left s old new is left counts = ap (λ opens. record s { opens = opens }) (kept-left s is left counts)

-- where all are named, nothing goes
pub without_opens-same : (s : State) (t : Table) → IsTable t → Counts t s.places
    → without_opens (record s { opens = opens_of t }) ≡ record s { opens = opens_of t }
without_opens-same s t is counts = without_opens-left s t t is (left-same t) counts
