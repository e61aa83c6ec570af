-- What may be opened, by its type and the flags, and the kernel with one more open file.
use Rattle.calls.proofs.Common.{[], and_parts, ap, arith, Bool, change_node, count_by, Directory, enter-parts, false}
use Rattle.calls.proofs.Common.{File, file_of, Files, FitsNode, free-None, free_count, free_slot, get_or-set_other}
use Rattle.calls.proofs.Common.{get_or-set_same, has_bit, has_seat, here-of, if◌then◌else◌, inl, InodeStat, inr}
use Rattle.calls.proofs.Common.{is_none, IsKernel, Kernel, kind_of, List, Made, make-parts, me, nat_lt, Node, node_on}
use Rattle.calls.proofs.Common.{None, none-some, not, OnNode, Option, option_map, process-here, put, refl, RunsAt}
use Rattle.calls.proofs.Common.{same_Some, set-slot, slice_set, slot, slot-within, Some, Spot, state-but, state_of}
use Rattle.calls.proofs.Common.{subst, suc, sym, target_of, Tells, TellsMajor, true, ℕ, ◌==◌, ◌||◌, ◌∙◌, ◌≡◌}
use Rattle.kernel.specs.Opening.{free_descriptors, MayOpen, opened_on, OpensOn}
use Rattle.std.proofs.lemmas.Bool.{cases_eq, eqb-true, lt-ltb, ltb-true}
use Rattle.calls.specs.Opened.{file_by, IsCut, IsOpenable, may_open_by, Opens, target_by, with_open}
use Rattle.kernel.proofs.Opening.{open-state}
use Rattle.files.specs.declared.file.OpenFile.{OpenFile}
use Rattle.unixmodel.specs.Files.Node.{Device}
use Rattle.unixmodel.specs.NameCalls.{opened, emptied, may_open, new_file, truncated, truncates, make_at}
use Rattle.files.specs.declared.file.Target.TheVariants as target
use Rattle.unixmodel.specs.OpenFiles as unix_files
use Rattle.unixmodel.specs.Process as unix

-- ---- flags and types

target-of : (n kind major : ℕ)
    → (target_of (target_by n kind major) ≡ OnNode n 0) × (node_on (target_by n kind major) ≡ Some n)
target-of n kind major = go (kind == 3) (major == 1) where
  go : (a b : Bool) → (target_of (if a then (if b then target.Console n else target.Device n) else target.File n 0)
      ≡ OnNode n 0)
      × (node_on (if a then (if b then target.Console n else target.Device n) else target.File n 0) ≡ Some n)
  go true true = (refl, refl)
  go true false = (refl, refl)
  go false b = (refl, refl)

-- that is the open file of the row
file-by : (f n kind major : ℕ) → file_of (file_by f (target_by n kind major)) ≡ opened f n
file-by f n kind major =
    ap (λ (t : unix_files.Target).
    let g : unix_files.OpenFile =
    record { target = t; readable = not (has_bit f 0); writable = has_bit f 0 || has_bit f 1 } in g)
    (target-of n kind major).0

pub may-by : (f : ℕ) (node : Node) (kind major : ℕ) → kind ≡ kind_of node → TellsMajor major node
    → may_open_by f kind major ≡ may_open f node
may-by f (Device links a b) kind major e m = rw (e, m) refl
may-by f node kind major e m = rw e refl

device-fits : (f : OpenFile) (n links a b : ℕ) (c : Bool) → (a == 1) ≡ c
    → FitsNode f (if c then target.Console n else target.Device n) (Some (Device links a b))
device-fits f n links a b true e = eqb-true a 1 e
device-fits f n links a b false e = e

fits-by : (f n : ℕ) (node : Node) (kind major : ℕ) → kind ≡ kind_of node → TellsMajor major node
    → may_open f node ≡ true → FitsNode (file_by f (target_by n kind major)) (target_by n kind major) (Some node)
fits-by f n (File links bytes) kind major e m may = rw e (omega arith)
fits-by f n (Device links a b) kind major e m may =
    rw (e, m) (device-fits (file_by f (target_by n 3 a)) n links a b (a == 1) refl)
fits-by f n (Directory links places) kind major e m may = let zero' : f ≡ 0 =
    eqb-true f 0 may in rw (e, zero') (omega arith, refl)

pub openable-told : (files : Files) (n f : ℕ) (told : InodeStat) → (node : Node) × (slot files n ≡ Some node)
    → ((node : Node) → slot files n ≡ Some node → Tells told node) → may_open_by f told.kind told.major ≡ true
    → IsOpenable files n f told
openable-told files n f told here tells may =
    let t = tells here.0 here.1 in
    record {
      node = here.0;
      here = here.1;
      kind = t.0;
      major = t.3;
      may = sym (may-by f here.0 told.kind told.major t.0 t.3) ∙ may;
    }

-- a file that is emptied stays of its type
emptied-same : (node : Node)
    → (kind_of (emptied node) ≡ kind_of node) × ((m : ℕ) → TellsMajor m node → TellsMajor m (emptied node))
    × ((f : ℕ) → may_open f (emptied node) ≡ may_open f node)
emptied-same (File links bytes) = (refl, λ m is. is, λ f. refl)
emptied-same node = (refl, λ m is. is, λ f. refl)

pub openable-cut : (files : Files) (n f : ℕ) (told : InodeStat) → IsOpenable files n f told
    → IsOpenable (truncated f (record { files = files; number = n })) n f told
openable-cut files n f told is = go (truncates f) where
  go : (b : Bool) → IsOpenable (if b then change_node files n emptied else files) n f told
  go true = record {
    node = emptied is.node;
    here = get_or-set_same files n (option_map emptied (slot files n)) None (slot-within files n is.node is.here)
        ∙ ap (option_map emptied) is.here;
    kind = is.kind ∙ sym (emptied-same is.node).0;
    major = (emptied-same is.node).1 told.major is.major;
    may = (emptied-same is.node).2 f ∙ is.may;
  }
  go false = is

-- ---- a descriptor and a slot

pub some-place : {X : Type 0} (xs : List (Option X)) (n : ℕ) → free_slot xs ≡ Some n
    → nat_lt 0 (count_by is_none xs) ≡ true
some-place xs n at = elim (cases_eq (count_by is_none xs) 0) [
  | inl none ↦ absurd (none-some n (sym (free-None xs none) ∙ at))
  | inr some ↦ lt-ltb 0 (count_by is_none xs) (omega (arith, some))
]

-- ---- the kernel with one more open file

module _ {k : Kernel} {i : ℕ} (runs : RunsAt k i) {n f : ℕ} {told : InodeStat} (is : IsOpenable k.tree.files n f told)
  where
    abbrev g : OpenFile
    g = file_by f (target_by n told.kind told.major)

    pub may-be-open : has_seat k i ≡ true → MayOpen k i n g
    may-be-open seat =
        let parts = and_parts (nat_lt 0 (free_descriptors k.table i)) (nat_lt 0 (free_count k.files)) seat in
        record {
          running = runs.active;
          descriptor = ltb-true 0 (free_descriptors k.table i) parts.0;
          place = ltb-true 0 (free_count k.files) parts.1;
          on = (target-of n told.kind told.major).1;
          fits = rw is.here (fits-by f n is.node told.kind told.major is.kind is.major is.may);
          up = runs.up;
        }

    pub opens-so : {new : Kernel} {fd : ℕ} → OpensOn k new i n g fd → IsKernel new → Opens k new i (opened f n) fd
    opens-so {new} {fd} o sound =
        let x = here-of runs in
        record {
          place = o.place;
          first = o.first;
          free = o.free;
          state = λ p at.
              state-but (opened_on k i n g o.place fd) o.same ∙ open-state x.runner g o.place fd n
              ∙ ap (λ (y : unix.Process). with_open (state_of k) i y fd o.place (file_of g))
              (same_Some (me x) p (sym (process-here x) ∙ at))
              ∙ ap (with_open (state_of k) i p fd o.place) (file-by f n told.kind told.major);
          runs = subst (λ (y : Kernel). RunsAt y i) (sym o.same)
              (record {
                active = runs.active;
                up = runs.up;
                sound = subst IsKernel o.same sound;
                zero = runs.zero;
                aligned = runs.aligned;
              });
          served = rw o.same (record { up = runs.up; same_device = refl; later = omega arith });
        }

-- ---- a file that is emptied

pub cut-runs : {old new : Kernel} {f n i : ℕ} → IsCut old new f n → RunsAt old i → RunsAt new i
cut-runs {i = i} cut runs =
    subst (λ (y : Kernel). RunsAt y i) (sym cut.same)
    (record {
      active = runs.active;
      up = runs.up;
      sound = subst IsKernel cut.same cut.sound;
      zero = runs.zero;
      aligned = runs.aligned;
    })

-- ---- a new file

pub made-new : (files : Files) (at : Spot) (made : Made) → make_at files at new_file ≡ Some made
    → slot made.files made.number ≡ Some (File 1 [])
made-new files at made h =
    let n = made.number in
    let is = make-parts files at new_file made h in
    let e = enter-parts (put files n (File 1 [])) at n made.files is.entered in
    let self : slot (put files n (File 1 [])) n ≡ Some (File 1 []) =
    get_or-set_same files n (Some (File 1 [])) None is.free.within in
    elim (cases_eq n at.directory) [
      | inl same ↦ absurd (let bad : 2
          ≡ 1 = ap kind_of (same_Some (File 1 []) (Directory (suc e.links) e.places)
          (sym self ∙ ap (slot (put files n (File 1 []))) same ∙ e.here)) in omega (arith, bad))
      | inr other ↦ ap (λ fs. slot fs n) e.is
          ∙ get_or-set_other (put files n (File 1 [])) at.directory n (Some (Directory (suc e.links) e.next)) None
          other ∙ self
    ]

-- it is empty already
pub truncated-new : (f : ℕ) (got : Made) → slot got.files got.number ≡ Some (File 1 []) → truncated f got ≡ got.files
truncated-new f got here = go (truncates f) where
  go : (b : Bool) → (if b then change_node got.files got.number emptied else got.files) ≡ got.files
  go true = ap (λ (o : Option Node). slice_set got.files got.number (option_map emptied o)) here
      ∙ set-slot got.files got.number (Some (File 1 [])) here
  go false = refl
