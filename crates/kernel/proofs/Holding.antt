-- Who holds the nodes of the disk, as processes, open files and nodes change.
use Rattle.kernel.proofs.Common.{put, ◌≡◌, ◌≢◌, ℕ, zero, suc, ◌+◌, ◌<◌, ◌≤◌, Bool, true, false, cond, List, [], ◌∷◌}
use Rattle.kernel.proofs.Common.{length, map, Option, Some, None, inl, inr, refl, ap, ap₂, sym, subst, ◌∙◌, arith}
use Rattle.kernel.proofs.Common.{IfSome, nat_lt, option_map, slice_set, SpaceView, drop, sum_by, ◌||◌, ◌==◌, list_any}
use Rattle.kernel.proofs.Common.{get_or-map, cases_eq, cases_lt, nat_tests, get_or-set_other, get_or-set_same}
use Rattle.kernel.proofs.Common.{sum_by-cons, sum_by-set, none-some, same_Some, one_in, target_of, Counted, more}
use Rattle.kernel.proofs.Common.{opened, opens_of, shared, all-set, FitsNode, IsFolder, IsInUse, files_on, home_in}
use Rattle.kernel.proofs.Common.{homes_at, one_at-self, sum, node_in, node_of, node_on, slot-within, Process, orphaned}
use Rattle.kernel.proofs.Common.{joined, holders, with_hold, FileTree, Node, slot, taken, is_node, is_zombie_mode}
use Rattle.kernel.proofs.Common.{is_used, State, sum-map, map-set_same, get_or-le-sum_by, lt-sum, lt-one, get_or_past}
use Rattle.files.specs.declared.file.OpenFile.{OpenFile}
use Rattle.files.specs.declared.file.Target.{Target}
use Rattle.files.specs.declared.file.Target.TheVariants as target
use Rattle.kernel.specs.Holding.{FitsFiles}
use Rattle.unixmodel.specs.OpenFiles as unix_files
use Rattle.unixmodel.specs.Process as unix

-- ---- tables with free slots

abbrev pub Opens : Type 0
Opens = List (Option Counted)

abbrev pub Processes : Type 0
Processes = List (Option Process)

abbrev pub Views : Type 0
Views = List (Option SpaceView)

abbrev pub Pipes : Type 0
Pipes = List (Option (List ℕ))

-- the descriptors of a process
abbrev pub Fds : Type 0
Fds = List (Option ℕ)

-- ---- what holds of each slot

pub slot-map : {X : Type 0} (f : X → X) (xs : List (Option X)) (j : ℕ)
    → slot (map (option_map f) xs) j ≡ option_map f (slot xs j)
slot-map f xs j = get_or-map (option_map f) xs j None

-- a changed entry has the old value
pub map-same : {A X : Type 0} (f : Option A → X) (change : A → A) → ((x : A) → f (Some (change x)) ≡ f (Some x))
    → (o : Option A) → f (option_map change o) ≡ f o
map-same f change same None = refl
map-same f change same (Some x) = same x

-- what holds of a process with any parent holds of it as an orphan
pub orphan-by : (P : Process → Type 0) (pid : ℕ) (p : Process) → ((parent : ℕ) → P (record p { parent = parent }))
    → P (orphaned pid p)
orphan-by P pid p is = elim (p.parent == pid) as (λ b. P (cond b (record p { parent = 1 }) p))
    [ true ↦ is 1 | false ↦ is p.parent ]

-- ---- sums over slots

module _ {X : Type 0} (f : Option X → ℕ) where
  -- a slot counts as much as it did
  pub same-set : (xs : List (Option X)) (i : ℕ) (o : Option X) → f o ≡ f (slot xs i)
      → sum_by f (slice_set xs i o) ≡ sum_by f xs
  same-set xs i o same = sym (sum-map f (slice_set xs i o)) ∙ ap sum (map-set_same f xs i o None same) ∙ sum-map f xs

  -- all slots count as much as they did
  pub same-map : (g : X → X) → ((o : Option X) → f (option_map g o) ≡ f o) → (xs : List (Option X))
      → sum_by f (map (option_map g) xs) ≡ sum_by f xs
  same-map g same [] = refl
  same-map g same (o ∷ os) =
      rw (sum_by-cons f (option_map g o) (map (option_map g) os), sum_by-cons f o os, same o, same-map g same os) refl

  -- a free slot is taken
  pub sum-put : (xs : List (Option X)) (i : ℕ) (x : X) → i < length xs → slot xs i ≡ None → f None ≡ 0
      → sum_by f (put xs i x) ≡ sum_by f xs + f (Some x)
  sum-put xs i x short free none = let was : f (slot xs i) ≡ 0 = ap f free
      ∙ none in omega (arith, sum_by-set f xs i (Some x) None short, was)

  -- a slot counts no more than all do
  pub least : (xs : List (Option X)) (i : ℕ) (x : X) → slot xs i ≡ Some x → f (Some x) ≤ sum_by f xs
  least xs i x at = let same : f (slot xs i) ≡ f (Some x) =
      ap f at in omega (arith, get_or-le-sum_by f xs i None (slot-within xs i x at), same)

-- a number that slots hold, and how many slots hold it
module _ {X : Type 0} (h : Option X → Option ℕ) where
  pub held-counts : h None ≡ None → (xs : List (Option X)) (j n : ℕ) → h (slot xs j) ≡ Some n
      → 1 ≤ sum_by (λ o. one_in n (h o)) xs
  held-counts none [] j n at = absurd (none-some n (sym none ∙ at))
  held-counts none (o ∷ os) zero n at = let one : one_in n (h o) ≡ 1 =
      ap (one_in n) at ∙ one_at-self n in omega (arith, sum_by-cons (λ x. one_in n (h x)) o os, one)
  held-counts none (o ∷ os) (suc j) n at =
      omega (arith, sum_by-cons (λ x. one_in n (h x)) o os, held-counts none os j n at)

  one-none : (n : ℕ) (o : Option ℕ) → o ≢ Some n → one_in n o ≡ 0
  one-none n None other = refl
  one-none n (Some d) other = let apart : d ≢ n = λ e. other (ap Some e) in grind (arith, nat_tests)

  held-none : (xs : List (Option X)) (n : ℕ) → ((j : ℕ) → h (slot xs j) ≢ Some n) → sum_by (λ o. one_in n (h o)) xs ≡ 0
  held-none [] n none = refl
  held-none (o ∷ os) n none =
      omega (
        arith,
        sum_by-cons (λ x. one_in n (h x)) o os,
        one-none n (h o) (none 0),
        held-none os n (λ j. none (suc j)),
      )

-- an open file fits only a node that is there
pub fits-there : (n : ℕ) (f : OpenFile) (t : Target) (o : Option Node) → node_on t ≡ Some n → FitsNode f t o → o ≢ None
fits-there n f (target.Pipe pipe e) o on fits none = none-some n on
fits-there n f t o on fits none = subst (FitsNode f t) none fits

-- an open file, where there is one, fits its node
abbrev pub FitsIn : FileTree → Option Counted → Type 0
FitsIn t o = (c : Counted) → o ≡ Some c → FitsFiles t.files c.file

pub fits-some : (t : FileTree) (c : Counted) → FitsFiles t.files c.file → FitsIn t (Some c)
fits-some t c fits d at = subst (λ (x : Counted). FitsFiles t.files x.file) (same_Some c d at) fits

-- what a process works in, if it works somewhere, is a directory
abbrev pub IsHome : FileTree → Option ℕ → Type 0
IsHome t h = IfSome h (λ d. IsFolder (slot t.files d))

-- ---- homes

module _ {t : FileTree} {opens : Opens} {os : Processes} (is : IsInUse t opens os) where
  -- other open files and processes hold each node as often
  pub used-by : (new : Opens) (after : Processes)
      → ((n : ℕ) → files_on opens n + homes_at os n ≡ files_on new n + homes_at after n)
      → ((k : ℕ) → FitsIn t (slot new k)) → ((j : ℕ) → IsHome t (home_in (slot after j))) → IsInUse t new after
  used-by new after same fits homes = record {
    rules = is.rules;
    zero = is.zero;
    within = is.within;
    holds = λ n. is.holds n ∙ same n;
    held = is.held;
    fits = fits;
    homes = homes;
  }

  -- a process works where it did
  pub used-put : (i : ℕ) (o : Option Process) → home_in o ≡ home_in (slot os i) → IsInUse t opens (slice_set os i o)
  used-put i o same =
      used-by opens (slice_set os i o)
      (λ n. ap (λ m. files_on opens n + m)
      (sym (same-set (λ x. one_in n (home_in x)) os i o (ap (one_in n) same)))) is.fits
      (all-set (λ j x. IsHome t (home_in x)) os i o (subst (IsHome t) (sym same) (is.homes i)) is.homes)

  pub home-folder : (i d : ℕ) → home_in (slot os i) ≡ Some d → IsFolder (slot t.files d)
  home-folder i d at = subst (IsHome t) at (is.homes i)

  -- the nodes that are held are there
  none-on : (n : ℕ) → slot t.files n ≡ None → files_on opens n ≡ 0
  none-on n gone = held-none _ opens n (λ j. off j _ refl) where
    off : (j : ℕ) (o : Option Counted) → slot opens j ≡ o → node_in o ≢ Some n
    off j None at on = none-some n on
    off j (Some c) at on = fits-there n c.file _ _ on
        (subst (λ h. FitsNode c.file c.file.target (node_of t.files h)) on (is.fits j c at)) gone

  pub held-there : (n : ℕ) → 1 ≤ holders t.holds n → slot t.files n ≢ None
  held-there n some gone =
      absurd (omega (
        arith,
        is.holds n,
        none-on n gone,
        held-none home_in os n (λ j at. subst IsFolder gone (home-folder j n at)),
        some,
      ))

-- ---- open files that are added, and whose nodes stay

module _ {t : FileTree} {opens : Opens} {os : Processes} (is : IsInUse t opens os) where
  -- as many are on each node
  pub used-files : (new : Opens) → ((n : ℕ) → files_on new n ≡ files_on opens n) → ((k : ℕ) → FitsIn t (slot new k))
      → IsInUse t new os
  used-files new same fits = used-by is new os (λ n. ap (λ m. m + homes_at os n) (sym (same n))) fits is.homes

  -- one descriptor more names an open file
  pub used-shared : (i : ℕ) → IsInUse t (shared opens i) os
  used-shared i =
      used-files (shared opens i)
      (λ n. same-set (λ o. one_in n (node_in o)) opens i _ (ap (one_in n) (map-same node_in more (λ c. refl) _)))
      (all-set (λ k. FitsIn t) opens i _ (go _ (is.fits i)) is.fits)
    where
      go : (o : Option Counted) → FitsIn t o → FitsIn t (option_map more o)
      go None was c at = absurd (none-some c at)
      go (Some d) was c at = fits-some t _ (was d refl) c at

  -- an open file takes a free slot; it is on no node
  pub used-opened : (i : ℕ) (f : OpenFile) → i < length opens → slot opens i ≡ None → node_on f.target ≡ None
      → FitsNode f f.target None → IsInUse t (opened opens i f) os
  used-opened i f inside free none fitting =
      let one : Counted = record { file = f; count = 1 } in
      used-files (opened opens i f)
      (λ n. same-set (λ o. one_in n (node_in o)) opens i _ (ap (one_in n) (none ∙ sym (ap node_in free))))
      (all-set (λ k. FitsIn t) opens i _
      (fits-some t one (subst (λ o. FitsNode f f.target (node_of t.files o)) (sym none) fitting)) is.fits)

-- ---- what the abstract Unix says is used

node-same : (n : ℕ) (on : Target) → is_node n (target_of on) ≡ nat_lt 0 (one_in n (node_on on))
node-same n (target.Pipe pipe e) = refl
node-same n on = sym (lt-one _)

any-files : (n : ℕ) (opens : Opens)
    → list_any (λ (f : unix_files.OpenFile). is_node n f.target) (taken (opens_of opens)) ≡ nat_lt 0 (files_on opens n)
any-files n [] = refl
any-files n (None ∷ os) =
    rw (sum_by-cons (λ o. one_in n (node_in o)) None os, lt-sum 0 (files_on os n)) (any-files n os)
any-files n (Some c ∷ os) =
    rw (sum_by-cons (λ o. one_in n (node_in o)) (Some c) os, lt-sum (one_in n (node_on c.file.target)) (files_on os n))
    (ap₂ ◌||◌ (node-same n c.file.target) (any-files n os))

-- a zombie works nowhere
abbrev pub IsAway : Option Process → Type 0
IsAway None = Unit {0}
IsAway (Some p) = is_zombie_mode p.mode ≡ true → p.directory ≡ 0

abbrev pub AreAway : Processes → Type 0
AreAway os = (j : ℕ) → IsAway (slot os j)

home-same : (n : ℕ) → n ≢ 0 → (p : Process) → (is_zombie_mode p.mode ≡ true → p.directory ≡ 0)
    → (p.directory == n) ≡ nat_lt 0 (one_in n (home_in (Some p)))
home-same n some p away = go _ refl where
  go : (b : Bool) → is_zombie_mode p.mode ≡ b
      → (p.directory == n) ≡ nat_lt 0 (one_in n (cond b None (Some p.directory)))
  go true e = let nowhere = away e in grind (arith, nat_tests)
  go false e = sym (lt-one _)

any-homes : (n : ℕ) → n ≢ 0 → (os : Processes) (hs : Views) → AreAway os
    → list_any (λ (p : unix.Process). p.directory == n) (taken (joined os hs)) ≡ nat_lt 0 (homes_at os n)
unfolding joined
any-homes n some [] hs away = refl
any-homes n some (None ∷ os) hs away =
    rw (sum_by-cons (λ o. one_in n (home_in o)) None os, lt-sum 0 (homes_at os n))
    (any-homes n some os (drop 1 hs) (λ j. away (suc j)))
any-homes n some (Some p ∷ os) hs away =
    rw (sum_by-cons (λ o. one_in n (home_in o)) (Some p) os, lt-sum (one_in n (home_in (Some p))) (homes_at os n))
    (ap₂ ◌||◌ (home-same n some p (away 0)) (any-homes n some os (drop 1 hs) (λ j. away (suc j))))

pub used-is : (opens : Opens) (os : Processes) (hs : Views) → AreAway os → (s : State) → s.opens ≡ opens_of opens
    → s.places ≡ joined os hs
    → (n : ℕ) → n ≢ 0 → is_used s n ≡ nat_lt 0 (files_on opens n + homes_at os n)
used-is opens os hs away s files places n some =
    ap₂ (λ fs ps. list_any (λ (f : unix_files.OpenFile). is_node n f.target) (taken fs)
    || list_any (λ (p : unix.Process). p.directory == n) (taken ps)) files places
    ∙ ap₂ ◌||◌ (any-files n opens) (any-homes n some os hs away)
    ∙ sym (lt-sum _ _)

pub within-holds : (holds : List ℕ) (n : ℕ) → 1 ≤ holders holds n → n < length holds
within-holds holds n some =
    elim (cases_lt n (length holds))
    [ inl inside ↦ inside | inr past ↦ absurd (let none = get_or_past holds n 0 past in omega arith) ]

-- ---- one more holds a node

-- one more hold counts
hold-more : (holds : List ℕ) (d : ℕ) → d < length holds → (n : ℕ)
    → holders (with_hold holds d) n ≡ holders holds n + one_in n (Some d)
hold-more holds d short n = elim (cases_eq n d) [
  | inl same ↦ rw same (omega (arith, get_or-set_same holds d (holders holds d + 1) 0 short, one_at-self d))
  | inr other ↦ (let none : one_in n (Some d) ≡ 0 = grind (arith, nat_tests)
      in omega (arith, get_or-set_other holds d n (holders holds d + 1) 0 other, none))
]

module _ {t : FileTree} {opens : Opens} {os : Processes} (is : IsInUse t opens os) where
  -- one more open file is on node d, or one more process works there
  pub used-more : (d : ℕ) → d < length t.holds → (new : Opens) (after : Processes)
      → ((n : ℕ) → files_on new n + homes_at after n ≡ files_on opens n + homes_at os n + one_in n (Some d))
      → ((k : ℕ) → FitsIn t (slot new k)) → ((j : ℕ) → IsHome t (home_in (slot after j)))
      → IsInUse (record t { holds = with_hold t.holds d }) new after
  used-more d short new after counts fits homes = record {
    rules = is.rules;
    zero = is.zero;
    within = is.within;
    holds = λ n. omega (arith, hold-more t.holds d short n, is.holds n, counts n);
    held = λ n node at bare. omega (arith, hold-more t.holds d short n, is.held n node at bare);
    fits = fits;
    homes = homes;
  }

  -- a process works in a directory
  pub home-held : (i d : ℕ) → home_in (slot os i) ≡ Some d → 1 ≤ holders t.holds d
  home-held i d at = omega (arith, is.holds d, held-counts home_in refl os i d at)

  -- a child works where its parent does
  pub used-child : (i d j : ℕ) (child : Process) → home_in (slot os i) ≡ Some d → home_in (Some child) ≡ Some d
      → j < length os → slot os j ≡ None
      → IsInUse (record t { holds = with_hold t.holds d }) opens (slice_set os j (Some child))
  used-child i d j child parent home short free =
      used-more d (within-holds _ d (home-held i d parent)) opens (slice_set os j (Some child))
      (λ n.
      let one : one_in n (home_in (Some child)) ≡ one_in n (Some d) = ap (one_in n) home in
      omega (arith, sum-put (λ o. one_in n (home_in o)) os j child short free refl, one))
      is.fits (all-set (λ j x. IsHome t (home_in x)) os j _ (subst (IsHome t) (sym home) (home-folder is i d parent))
      is.homes)
