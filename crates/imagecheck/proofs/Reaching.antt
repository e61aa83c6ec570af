-- What is reached from the root, by the parents of directories.
use Rattle.imagecheck.proofs.Common.{◌≡◌, ◌≢◌, ℕ, ◌+◌, ◌<◌, ◌≤◌, List, [], ◌∷◌, ◌++◌, None, Option, Some, length}
use Rattle.imagecheck.proofs.Common.{get_or, drop, map, ap, sym, refl, ◌∙◌, arith, subst, inl, inr, true, false, zero}
use Rattle.imagecheck.proofs.Common.{suc, All, IfSome, IsSome, filter, option_map, slice_get, unwrap_or, ◌==◌}
use Rattle.imagecheck.proofs.Common.{range_with_len, cases_eq, cases_lt, cond-false, false≢true, All-cons, All-filter}
use Rattle.imagecheck.proofs.Common.{All-head, All-map, All-nil, filter_passes, get_or-range_with_len}
use Rattle.imagecheck.proofs.Common.{length-range_with_len, length-filter, none-some, Node, dot, dot_dot, has_name}
use Rattle.imagecheck.proofs.Common.{is_directory, slot, taken, Directory, all_entries, entries_of, is_directory_at}
use Rattle.imagecheck.proofs.Common.{names_number, names_of, parent_of, is_name, EntriesAt, FitsEntries, HasEntries}
use Rattle.imagecheck.proofs.Common.{HasLinks, IsReached, LinksAt, Climbs, ancestor, get_or_past, Entry, replicate, set}
use Rattle.imagecheck.proofs.Common.{cond, count_by, cond-true, get_or-set_other, get_or-set_same, length-replicate}
use Rattle.imagecheck.proofs.Common.{sum_by-set, at_or, HasWalked}
use Rattle.imagerules.proofs.Marking.{All-flat_map, All-from_flat_map, All-from_map, All-from_passing}
use Rattle.std.proofs.lemmas.Bool.{eq-eqb, eqb-true, ne_eqb}
use Rattle.unixmodel.specs.Files.{find, entry_number, Files, follow, live_places, lookup, parts}
use Rattle.imagecheck.proofs.Entering.{behind_dots, each_named, holds_named, holds_taken}
use Rattle.layout.proofs.SoundLemmas.{zero_at}
use Rattle.std.proofs.Common.{option_and_then, position, slice_index, ◌⊎◌}
use Rattle.imagerules.proofs.Paths.{find-empty, find-root, find-slash, first_named-is, IsGiven-name}

-- ---- entries and parents

-- a property of the entries of each directory is one of all entries, and the other way round
pub all-entries : (files : Files) (P : ℕ × Entry → Type 0)
    → ((d : ℕ) → All (λ e. P (d, e)) (entries_of (slot files d))) → All P (all_entries files)
unfolding all_entries
all-entries files P h =
    All-flat_map P (λ d. map (λ e. (d, e)) (entries_of (slot files d))) (range_with_len 0 _) (λ k x l.
    let d = get_or (range_with_len 0 (length files)) k x in
    All-map P (λ (e : Entry). (d, e)) (entries_of (slot files d)) (h d))

entries-all : (files : Files) (P : ℕ × Entry → Type 0) → All P (all_entries files) → (d : ℕ)
    → All (λ e. P (d, e)) (entries_of (slot files d))
unfolding all_entries
entries-all files P h d k x l =
    let within : d < length files =
    elim (cases_lt d _) [
      | inl low ↦ low
      | inr past ↦ absurd
          (omega (arith, l, ap (λ o. length (entries_of o)) (get_or_past files d None past)))
    ] in
    let e : get_or (range_with_len 0 (length files)) d 0 ≡ d = get_or-range_with_len 0 _ d 0 within ∙ omega arith in
    let there = All-from_flat_map P (λ d. map (λ e. (d, e)) (entries_of (slot files d)))
    (range_with_len 0 (length files)) h d 0 (omega (arith, length-range_with_len 0 (length files))) in
    All-from_map P (λ (y : Entry). (d, y)) _
    (subst (λ m. All P (map (λ e. (m, e)) (entries_of (slot files m)))) {x = get_or _ d 0} e there) k x l

-- the directory of the first of them
abbrev first_of : List (ℕ × Entry) → ℕ
first_of xs = unwrap_or (option_map (λ (y : ℕ × Entry). y.0) (slice_get xs 0)) 0

first_has : (P : ℕ × Entry → Type 0) (n : ℕ) (xs : List (ℕ × Entry)) → 1 ≤ length xs → All P xs
    → All (λ x. names_number n x ≡ true) xs → (e : Entry) × (e.number ≡ n) × P (first_of xs, e)
first_has P n [] some each names = absurd (omega arith)
first_has P n (x ∷ xs) some each names =
    (x.1, eqb-true _ n (All-head (λ x. names_number n x ≡ true) x xs names), All-head P x xs each)

-- what has a name has one in its parent
pub parent-has : (files : Files) (P : ℕ × Entry → Type 0) → All P (all_entries files) → (n : ℕ) → n ≢ 1
    → 1 ≤ names_of files n → (e : Entry) × (e.number ≡ n) × P (parent_of files n, e)
unfolding parent_of names_of
parent-has files P each n other some =
    let all = all_entries files in
    rw (ne_eqb n 1 other) (first_has P n (filter (names_number n) all)
    (omega (arith, length-filter (names_number n) all)) (All-filter (names_number n) P all each)
    (filter_passes (names_number n) all))

all_alone : (xs : List (ℕ × Entry)) → length xs ≡ 1 → All (λ x. first_of xs ≡ x.0) xs
all_alone (x ∷ []) h = All-cons (λ (y : ℕ × Entry). x.0 ≡ y.0) x [] refl (All-nil (λ (y : ℕ × Entry). x.0 ≡ y.0))
all_alone _ h = absurd (omega arith)

-- and only there, where it has one
pub parent-only : (files : Files) (n : ℕ) → n ≢ 1 → names_of files n ≡ 1 → (d : ℕ)
    → All (λ (e : Entry). (e.number == n) ≡ true → parent_of files n ≡ d) (entries_of (slot files d))
unfolding parent_of names_of
parent-only files n other once =
    let named = filter (names_number n) (all_entries files) in
    let alone = all_alone named (length-filter (names_number n) (all_entries files) ∙ once) in
    rw (ne_eqb n 1 other) (entries-all files (λ x. names_number n x ≡ true → first_of named ≡ x.0)
    (All-from_passing (λ x. first_of named ≡ x.0) (names_number n) (all_entries files) alone))

-- ---- an entry leads from its directory to its number

pub record Leads (files : Files) (x : ℕ × Entry) : Type 0 where
  pub found : lookup files x.0 x.1.name ≡ Some x.1.number
  pub name : is_name x.1.name ≡ true
  pub directory : is_directory_at files x.0 ≡ true

leads_from : (files : Files) (d : ℕ) (o : Option Node) → slot files d ≡ o → EntriesAt files d o → LinksAt files d o
    → All (λ e. Leads files (d, e)) (entries_of o)
unfolding lookup
leads_from files d (Some (Directory zero places)) at e l = absurd (omega arith)
leads_from files d (Some (Directory (suc links) places)) at e l = λ k x m.
    let entry = get_or (taken (drop 2 places)) k x in
    record {
      found = rw (
        at,
        first_named-is entry.name places,
        behind_dots entry.name places d (parent_of files d) e.own e.parent
            (IsGiven-name entry.name (e.names k x m)).no_dots,
        each_named (drop 2 places) e.once k x m,
      ) refl;
      name = e.names k x m;
      directory = rw at refl;
    }
leads_from files d o at e l = All-nil (λ e. Leads files (d, e))

-- a node in use, except the root, has a name
some_name : (files : Files) (n : ℕ) (o : Option Node) → EntriesAt files n o → LinksAt files n o → IsSome o → n ≢ 1
    → 1 ≤ names_of files n
some_name files n None e l used other = absurd (false≢true used)
some_name files n (Some (Directory links places)) e l used other = let a = e.named
    ∙ cond-false (n == 1) 0 1 (ne_eqb n 1 other) in omega arith
some_name files n o e l used other = let a = l.0 in let b = l.1 in omega arith

-- an entry of its parent leads to a node in use
pub parent_leads : (files : Files) → HasEntries files → HasLinks files → (n : ℕ) → IsSome (slot files n) → n ≢ 1
    → (e : Entry) × (e.number ≡ n) × Leads files (parent_of files n, e)
parent_leads files entries links n used other =
    parent-has files (Leads files)
    (all-entries files (Leads files) (λ d. leads_from files d (slot files d) refl (entries d) (links d))) n other
    (some_name files n (slot files n) (entries n) (links n) used other)

-- ---- from a chain of parents to a path

pub used_from : (o : Option Node) → unwrap_or (option_map is_directory o) false ≡ true → IsSome o
used_from None h = absurd (false≢true h)
used_from (Some node) h = refl

module _ (files : Files) (entries : HasEntries files) (links : HasLinks files) where
  path_to : (k n : ℕ) → ancestor files k n ≡ 1 → IsSome (slot files n) → (path : List ℕ) × (find files 1 path ≡ Some n)
  path_to zero n h used = ([], find-empty files ∙ ap Some (sym h))
  path_to (suc k) n h used = elim (cases_eq n 1) [
    | inl root ↦ ([], find-empty files ∙ ap Some (sym root))
    | inr other ↦
        let lead = parent_leads files entries links n used other in
        let way = path_to k (parent_of files n) h (used_from (slot files (parent_of files n)) lead.2.directory) in (
          way.0 ++ 0x2f ∷ lead.0.name,
          find-slash files way.0 lead.0.name (parent_of files n) n lead.2.name way.1 (lead.2.found ∙ ap Some lead.1),
        )
  ]

  -- where each directory climbs to the root, all is reached from there
  pub IsReached-from : ((n : ℕ) → is_directory_at files n ≡ true → Climbs files n) → IsReached files
  IsReached-from climbs n used = elim (cases_eq n 1) [
    | inl root ↦ path_to 0 n root used
    | inr other ↦
        let lead = parent_leads files entries links n used other in
        let above = climbs (parent_of files n) lead.2.directory in
        path_to (suc above.steps) n above.root used
  ]

-- ---- from a path to a chain of parents

-- a number that climbs to the root where it is a directory
abbrev IsClimber : Files → ℕ → Type 0
IsClimber files n = is_directory_at files n ≡ true → Climbs files n

pub parent_root : (files : Files) → parent_of files 1 ≡ 1
unfolding parent_of
parent_root files = refl

pub Climbs-parent : (files : Files) (n : ℕ) → Climbs files n → Climbs files (parent_of files n)
Climbs-parent files n h = go h.steps h.root where
  go : (k : ℕ) → ancestor files k n ≡ 1 → Climbs files (parent_of files n)
  go zero e = record { steps = 0; root = ap (parent_of files) e ∙ parent_root files }
  go (suc k) e = record { steps = k; root = e }

pub Climbs-child : (files : Files) (n : ℕ) → Climbs files (parent_of files n) → Climbs files n
Climbs-child files n h = record { steps = suc h.steps; root = h.root }

directory_named : (files : Files) (n : ℕ) (o : Option Node) → EntriesAt files n o
    → unwrap_or (option_map is_directory o) false ≡ true → n ≢ 1 → names_of files n ≡ 1
directory_named files n (Some (Directory links places)) e h other = e.named ∙ cond-false _ 0 1 (ne_eqb n 1 other)
directory_named files n o e h other = absurd (false≢true h)

module _ (files : Files) (entries : HasEntries files) where
  -- the number in a slot climbs
  abbrev Holds : Option Entry → Type 0
  Holds o = IfSome (entry_number o) (IsClimber files)

  entries_climb : (d : ℕ) → Climbs files d → All (λ e. Holds (Some e)) (entries_of (slot files d))
  entries_climb d climbs k x l directory =
      let n = (get_or (entries_of (slot files d)) k x).number in
      elim (cases_eq n 1) [
        | inl root ↦ record { steps = 0; root = root }
        | inr other ↦ Climbs-child files n
            (rw (parent-only files n other (directory_named files n (slot files n) (entries n) directory other) d k x l
            (eq-eqb n n refl)) climbs)
      ]

  places_climb : (d : ℕ) → Climbs files d → (places : List (Option Entry)) → FitsEntries files d places
      → All (λ e. Holds (Some e)) (taken (drop 2 places)) → All Holds places
  places_climb d climbs [] fits h = absurd (none-some (record { name = dot; number = d }) fits.own)
  places_climb d climbs (o ∷ []) fits h =
      absurd (none-some (record { name = dot_dot; number = parent_of files d }) fits.parent)
  places_climb d climbs (o ∷ r ∷ os) fits h =
      All-cons Holds o (r ∷ os) (subst Holds (sym fits.own) (λ _. climbs))
      (All-cons Holds r os (subst Holds (sym fits.parent) (λ _. Climbs-parent files d climbs))
      (holds_taken Holds tt os h))

  step_climbs : (d : ℕ) (w : List ℕ) (o : Option Node) → slot files d ≡ o → EntriesAt files d o → IsClimber files d
      → IfSome (option_and_then (λ places. entry_number (option_and_then (slot places) (position (has_name w) places)))
      (live_places o)) (IsClimber files)
  step_climbs d w (Some (Directory (suc links) places)) at e h =
      let climbs = h (rw at refl) in
      rw (first_named-is w places)
      (holds_named Holds tt w places (places_climb d climbs places e (rw at at (entries_climb d climbs))))
  step_climbs d w o at e h = tt

  follow_climbs : (ws : List (List ℕ)) (d : ℕ) → IsClimber files d → IfSome (follow files d ws) (IsClimber files)
  unfolding lookup
  follow_climbs [] d h = h
  follow_climbs (w ∷ ws) d h =
      go (lookup files d w) (step_climbs d w (slot files d) refl (entries d) h) (follow_climbs ws) where
        go : (o : Option ℕ) → IfSome o (IsClimber files)
            → ((n : ℕ) → IsClimber files n → IfSome (follow files n ws) (IsClimber files))
            → IfSome (option_and_then (λ n. follow files n ws) o) (IsClimber files)
        go None h next = tt
        go (Some n) h next = next n h

  -- a directory that is reached climbs to the root
  pub Climbs-reached : IsReached files → (n : ℕ) → is_directory_at files n ≡ true → Climbs files n
  Climbs-reached reached n directory =
      let path = reached n (used_from (slot files n) directory) in
      (rw (← find-root, path.1) at (follow_climbs (parts path.0) 1 (λ _. record { steps = 0; root = refl }))) directory

-- ---- walks up from directories, which mark the directories that they meet

-- a walk from a start has reached n: the directories that it met are marked with the start
pub record IsWalk (files : Files) (start n : ℕ) (marks : List ℕ) : Type 0 where
  pub root : slice_index marks 1 ≡ 1
  pub most : (m : ℕ) → slice_index marks m ≤ start
  pub before : (m : ℕ) → slice_index marks m ≢ 0 → slice_index marks m ≢ start → Climbs files m
  pub met : (m : ℕ) → slice_index marks m ≡ start → Climbs files n → Climbs files m
  pub first : Climbs files n → Climbs files start
  pub next : (m : ℕ) → slice_index marks m ≡ start
      → (slice_index marks (parent_of files m) ≡ start) ⊎ (parent_of files m ≡ n)

pub IsWalk-start : (files : Files) (start : ℕ) (marks : List ℕ) → HasWalked files start marks
    → IsWalk files start start marks
IsWalk-start files start marks h = record {
  root = h.root;
  most = λ m. omega (arith, h.before m);
  before = λ m some other. h.climbs m some;
  met = λ m here c. absurd (omega (arith, h.before m));
  first = λ c. c;
  next = λ m here. absurd (omega (arith, h.before m));
}

module _ (files : Files) (start n : ℕ) (marks : List ℕ) (h : IsWalk files start n marks) (above : 1 < start) where
  -- one step up
  pub IsWalk-more : n < length marks → slice_index marks n ≡ 0
      → IsWalk files start (parent_of files n) (set marks n start)
  IsWalk-more within free =
      let same : get_or (set marks n start) n 0 ≡ start = get_or-set_same marks n start 0 within in
      let other = λ (m : ℕ) (not_n : m ≢ n). get_or-set_other marks n m start 0 not_n in
      record {
        root = other 1 (λ e. let z : slice_index marks 1 ≡ 0 = ap (λ k. get_or marks k 0) e
            ∙ free in let r = h.root in absurd (omega arith)) ∙ h.root;
        most = λ m. at_or (λ k. slice_index (set marks n start) k ≤ start) n m (omega arith)
            (λ not_n. let k = other m not_n in omega (arith, h.most m));
        before = λ m. at_or (λ k. slice_index (set marks n start) k ≢ 0 → slice_index (set marks n start) k ≢ start
            → Climbs files k) n m (λ some not. absurd (not same))
            (λ not_n some not. h.before m (λ z. some (other m not_n ∙ z)) (λ z. not (other m not_n ∙ z)));
        met = λ m here c. at_or (λ k. slice_index (set marks n start) k ≡ start → Climbs files k) n m
            (λ _. Climbs-child files n c)
            (λ not_n at. h.met m (sym (other m not_n) ∙ at) (Climbs-child files n c)) here;
        first = λ c. h.first (Climbs-child files n c);
        next = λ m here. elim (cases_eq m n) [
          | inl e ↦ inr (ap (parent_of files) e)
          | inr not_n ↦ elim (h.next m (sym (other m not_n) ∙ here)) [
            | inl e ↦ inl (at_or (λ k. slice_index marks k ≡ start → slice_index (set marks n start) k ≡ start) n
                (parent_of files m) (λ _. same) (λ up f. other (parent_of files m) up ∙ f) e)
            | inr e ↦ inl (ap (λ k. get_or (set marks n start) k 0) e ∙ same)
          ]
        ];
      }

  -- it reaches one that an earlier walk met
  pub HasWalked-more : slice_index marks n ≢ 0 → slice_index marks n ≢ start → HasWalked files (start + 1) marks
  HasWalked-more some other = record {
    root = h.root;
    before = λ m. omega (arith, h.most m);
    climbs = λ m used. elim (cases_eq (slice_index marks m) start) [
      | inl e ↦ h.met m e (h.before n some other)
      | inr other_mark ↦ h.before m used other_mark
    ];
  }

  -- it reaches one of its own: none of these climbs to the root
  round_on : slice_index marks n ≡ start → (k m : ℕ) → slice_index marks m ≡ start → ancestor files k m ≡ 1 → ⊥
  round_on own zero m here e = let one : slice_index marks m ≡ 1 = ap (λ i. get_or marks i 0) e
      ∙ h.root in absurd (omega arith)
  round_on own (suc k) m here e = elim (h.next m here) [
    | inl up ↦ round_on own k _ up e
    | inr up ↦ round_on own k _ (ap (λ i. get_or marks i 0) up ∙ own) e
  ]

  pub round_not : slice_index marks n ≡ start → Climbs files n → ⊥
  round_not own c = round_on own c.steps n own c.root

-- ---- the numbers without a mark get fewer

abbrev pub unmarked : List ℕ → ℕ
unmarked marks = count_by (λ m. m == 0) marks

pub unmarked_less : (marks : List ℕ) (n start : ℕ) → n < length marks → get_or marks n 0 ≡ 0 → start ≢ 0
    → unmarked (set marks n start) < unmarked marks
unmarked_less marks n start within free some =
    let was : cond {A = ℕ} (get_or marks n 0 == 0) 1 0 ≡ 1 =
    cond-true (get_or marks n 0 == 0) 1 0 (eq-eqb (get_or marks n 0) 0 free) in
    let now : cond {A = ℕ} (start == 0) 1 0 ≡ 0 = cond-false (start == 0) 1 0 (ne_eqb start 0 some) in
    let sums : unmarked (set marks n start) + cond {A = ℕ} (get_or marks n 0 == 0) 1 0
    ≡ unmarked marks + cond {A = ℕ} (start == 0) 1 0 =
    sum_by-set (λ m. cond (m == 0) 1 0) marks n start 0 within in
    omega arith

-- ---- the walks, one after the other

-- at first the root alone is marked
pub HasWalked-first : (files : Files) (count : ℕ) → 1 < count → HasWalked files 2 (set (replicate count 0) 1 1)
HasWalked-first files count l =
    let root : slice_index (set (replicate count 0) 1 1) 1 ≡ 1 =
    get_or-set_same (replicate count 0) 1 1 0 (omega (arith, length-replicate {A = ℕ} count 0)) in
    let free = λ (m : ℕ) (other : m ≢ 1). get_or-set_other (replicate count 0) 1 m 1 0 other ∙ zero_at count m in
    record {
      root = root;
      before = λ m. at_or (λ k. slice_index (set (replicate count 0) 1 1) k < 2) 1 m (omega (arith, root))
          (λ other. omega (arith, free m other));
      climbs = λ m some. elim (cases_eq m 1)
          [ inl e ↦ record { steps = 0; root = e } | inr other ↦ absurd (some (free m other)) ];
    }
