-- Files at rest keep the rules of a running machine, and files of a running machine whose nodes all have links those of
-- files at rest.
use Rattle.imagemake.proofs.Common.{◌≡◌, ◌≢◌, ℕ, zero, suc, ◌+◌, ◌<◌, ◌≤◌, Bool, true, false, cond, not, List, [], ◌∷◌}
use Rattle.imagemake.proofs.Common.{inl, inr, length, get_or, ap, sym, refl, ◌∙◌, arith, All, AllPairs, IsTrue}
use Rattle.imagemake.proofs.Common.{bytes_eq, count_by, cases_Bool, false_from_ne_true, All-head, All-tail, sum_by-cons}
use Rattle.imagemake.proofs.Common.{bytes_eq-Decides, is_name, Entry, subst, ◌==◌, Files, slot, all_entries, entries_of}
use Rattle.imagemake.proofs.Common.{names_of, parent_of, names_by, eq-eqb, IsDirectory, KeepsNode, EntriesAt-from, None}
use Rattle.imagemake.proofs.Common.{Option, Some, option_map, unwrap_or, cases_eq, cond-false, false≢true, Node}
use Rattle.imagemake.proofs.Common.{dot_dot, is_directory, KeepsRules, is_directory_at, subdirectories, KeepsLive}
use Rattle.imagemake.proofs.Common.{KeepsTree, folders, names_for, HasLinked, ne_eqb, Directory, LinksAt-from, IsSome}
use Rattle.imagemake.proofs.Common.{is_some, All-nil, cond-true, links_of, names_by-le}
use Rattle.imagecheck.proofs.Reaching as reaching
use Rattle.name_rules.proofs.Finding.{named-used}
use Rattle.name_rules.proofs.Counts.{entry-names, count_by-item, counted-none, counted-one}
use Rattle.imagecheck.proofs.Reaching.{all-entries, Climbs-child, Climbs-reached, IsReached-from, parent_root}
use Rattle.imagecheck.specs.Reach.{ancestor, Climbs}
use Rattle.name_rules.specs.Rules.{entries, HasRoot, IsLive, IsRanked}

-- ---- what holds of all entries of a directory, as a count

count-cons : {X : Type 0} (p : X → Bool) (x : X) (xs : List X) → count_by p (x ∷ xs) ≡ cond (p x) 1 0 + count_by p xs
count-cons p x xs = sum_by-cons (λ y. cond (p y) 1 0) x xs

pub count_by-none : {X : Type 0} (p : X → Bool) (xs : List X) → All (λ x. p x ≡ false) xs → count_by p xs ≡ 0
count_by-none p [] h = refl
count_by-none p (x ∷ xs) h =
    omega (
      arith,
      count-cons p x xs,
      counted-none (All-head (λ y. p y ≡ false) x xs h),
      count_by-none p xs (All-tail (λ y. p y ≡ false) x xs h),
    )

-- what is counted is at some index
pub record IsAmong {X : Type 0} (p : X → Bool) (xs : List X) (d : X) : Type 0 where
  pub place : ℕ
  pub within : place < length xs
  pub passes : p (get_or xs place d) ≡ true

pub counted-among : {X : Type 0} (p : X → Bool) (xs : List X) (d : X) → 1 ≤ count_by p xs → IsAmong p xs d
counted-among p [] d h = absurd (omega arith)
counted-among p (x ∷ xs) d h = elim (cases_Bool (p x)) [
  | inl t ↦ record { place = 0; within = omega arith; passes = t }
  | inr f ↦ let rest = counted-among p xs d (omega (arith, h, count-cons p x xs, counted-none f))
      in record { place = suc _; within = let l = rest.within in omega arith; passes = rest.passes }
]

-- ---- good names

pub good-from : (es : List Entry) → count_by (λ (e : Entry). not (is_name e.name)) es ≡ 0
    → All (λ (e : Entry). IsTrue (is_name e.name)) es
good-from es none k d l = elim (cases_Bool (is_name (get_or es k d).name)) [
  | inl t ↦ t
  | inr f ↦ absurd (omega (
    arith,
    none,
    count_by-item (λ (e : Entry). not (is_name e.name)) es k d l,
    counted-one (ap not f),
  ))
]

-- ---- each name once

pub twice : {X : Type 0} (p : X → Bool) (xs : List X) (i j : ℕ) (d : X) → i < j → j < length xs
    → p (get_or xs i d) ≡ true → p (get_or xs j d) ≡ true → 2 ≤ count_by p xs
twice p (x ∷ xs) zero (suc j) d h l s t =
    omega (arith, count-cons p x xs, counted-one s, counted-one t, count_by-item p xs j d (omega arith))
twice p (x ∷ xs) (suc i) (suc j) d h l s t =
    omega (arith, count-cons p x xs, twice p xs i j d (omega arith) (omega arith) s t)
twice p _ i j d h l s t = absurd (omega arith)

pub once-from : (es : List Entry) → ((name : List ℕ) → count_by (λ (e : Entry). bytes_eq e.name name) es ≤ 1)
    → AllPairs (λ (e f : Entry). e.name ≢ f.name) es
once-from es once i j d h l same =
    let w = (get_or es j d).name in
    let first = (bytes_eq-Decides (get_or es i d).name w).1 same in
    let second = (bytes_eq-Decides w w).1 refl in
    absurd (omega (arith, once w, twice (λ (e : Entry). bytes_eq e.name w) es i j d h l first second))

pub once-count : (es : List Entry) → AllPairs (λ (e f : Entry). e.name ≢ f.name) es → (name : List ℕ)
    → count_by (λ (e : Entry). bytes_eq e.name name) es ≤ 1
once-count [] h name = omega arith
once-count (x ∷ es) h name =
    let test : Entry → Bool = λ e. bytes_eq e.name name in
    elim (cases_Bool (bytes_eq x.name name)) [
      | inl t ↦
          let is = (bytes_eq-Decides x.name name).0 t in
          let none = count_by-none test es
          (λ k d l. false_from_ne_true (bytes_eq (get_or es k d).name name)
          (λ s. h 0 (suc k) d (omega arith) (omega arith)
          (is ∙ sym ((bytes_eq-Decides (get_or es k d).name name).0 s)))) in
          omega (arith, count-cons test x es, none, counted-one t)
      | inr f ↦ omega (
        arith,
        count-cons test x es,
        counted-none f,
        once-count es (λ i j d l m. h (suc i) (suc j) d (omega arith) (omega arith)) name,
      )
    ]

-- ---- the directory that names a node

-- what has one name has it in its parent
pub parent-only : (files : Files) (n d : ℕ) → n ≢ 1 → names_of files n ≡ 1 → 1 ≤ names_by (slot files d) n
    → parent_of files n ≡ d
unfolding names_by
parent-only files n d other once h =
    let nobody : Entry = record { name = []; number = 0 } in
    let at = counted-among (λ (e : Entry). e.number == n) (entries_of (slot files d)) nobody h in
    reaching.parent-only files n other once d at.place nobody at.within at.passes

each-names : (files : Files) → All (λ x. 1 ≤ names_by (slot files x.0) x.1.number) (all_entries files)
unfolding names_by
each-names files =
    all-entries files (λ x. 1 ≤ names_by (slot files x.0) x.1.number) (λ d k e l.
    let n = (get_or (entries_of (slot files d)) k e).number in
    let one = counted-one (eq-eqb n n refl) in
    omega (arith, one, count_by-item (λ (x : Entry). x.number == n) (entries_of (slot files d)) k e l))

-- what has a name has one in its parent
pub parent-names : (files : Files) (n : ℕ) → n ≢ 1 → 1 ≤ names_of files n
    → 1 ≤ names_by (slot files (parent_of files n)) n
parent-names files n other some =
    let has = reaching.parent-has files (λ x. 1 ≤ names_by (slot files x.0) x.1.number) (each-names files) n other some
    in
    subst (λ m. 1 ≤ names_by (slot files (parent_of files n)) m) has.1 has.2

-- ---- files of a running machine whose nodes all have links keep the rules of files at rest

directory-from : (files : Files) (d : ℕ) (o : Option Node) → slot files d ≡ o → (n : ℕ) → 1 ≤ names_by o n
    → is_directory_at files d ≡ true
unfolding names_by
directory-from files d (Some (Directory links places)) at n h = ap (λ o. unwrap_or (option_map is_directory o) false) at
directory-from files d _ at n h = absurd (omega arith)

-- what names is a directory
pub naming-directory : (files : Files) (d n : ℕ) → 1 ≤ names_by (slot files d) n → is_directory_at files d ≡ true
naming-directory files d n h = directory-from files d _ refl n h

pub folders-are : (files : Files) (d links : ℕ) (places : List (Option Entry))
    → slot files d ≡ Some (Directory links places) → folders files (entries places) ≡ subdirectories files d
unfolding folders subdirectories
folders-are files d links places here =
    ap (λ o. count_by (λ (e : Entry). is_directory_at files e.number) (entries_of o)) (sym here)

module _ {files : Files} (keeps : KeepsTree files) (linked : HasLinked files) where
  module _ (d links : ℕ) (places : List (Option Entry)) (here : slot files d ≡ Some (Directory (suc links) places))
    where
      live : IsLive files d links places
      live = subst (KeepsLive files d) here (keeps.nodes d)

      named : names_of files d ≡ cond (d == 1) 0 1
      named = keeps.named d ∙ ap (names_for d) here

      parent-is : live.up ≡ parent_of files d
      parent-is = elim (cases_eq d 1) [
        | inl e ↦ live.above.root e ∙ sym (ap (parent_of files) e ∙ parent_root files)
        | inr s ↦ sym (parent-only files d live.up s (named ∙ cond-false (d == 1) 0 1 (ne_eqb d 1 s))
            (live.above.names s))
      ]

      directory-kept : IsDirectory files d (suc links) places
      directory-kept = record {
        own = live.own;
        parent = live.parent ∙ ap (λ (p : ℕ). Some (record { name = dot_dot; number = p })) parent-is;
        names = good-from (entries places) live.good;
        once = once-from (entries places) live.once;
        numbers = λ k e l. named-used keeps (get_or (entries places) k e).number
            (entry-names files d _ places here k e l);
        named = named;
        counted = omega (arith, live.counted, folders-are files d (suc links) places here);
      }

  node-kept : (n : ℕ) (o : Option Node) → slot files n ≡ o → KeepsNode files n o
  node-kept n None here = tt
  node-kept n (Some (Directory zero places)) here = absurd (let some = linked n _ here in omega arith)
  node-kept n (Some (Directory (suc links) places)) here = directory-kept n links places here
  node-kept n (Some node) here =
      record {
        counted = sym (keeps.named n ∙ ap (names_for n) here);
        least = linked n node here;
        most = subst (KeepsLive files n) here (keeps.nodes n);
      }

  nodes-kept : (n : ℕ) → KeepsNode files n (slot files n)
  nodes-kept n = node-kept n (slot files n) refl

  -- ---- a directory climbs to the root: by ranks

  climbs-above : (n : ℕ) (o : Option Node) → slot files n ≡ o → is_directory_at files n ≡ true → n ≢ 1
      → ((up : ℕ) → is_directory_at files up ≡ true → keeps.depth up < keeps.depth n → Climbs files up) → Climbs files n
  climbs-above n (Some (Directory zero places)) here h s next = absurd (let some = linked n _ here in omega arith)
  climbs-above n (Some (Directory (suc links) places)) here h s next =
      let up = (live n links places here).up in
      let names = (live n links places here).above.names s in
      Climbs-child files n (subst (Climbs files) (parent-is n links places here)
      (next up (naming-directory files up n names) (keeps.ranked up n names h)))
  climbs-above n _ here h s next =
      absurd (false≢true (sym (ap (λ o. unwrap_or (option_map is_directory o) false) here) ∙ h))

  climbs-below : (k n : ℕ) → keeps.depth n < k → is_directory_at files n ≡ true → Climbs files n
  climbs-below zero n l h = absurd (omega arith)
  climbs-below (suc k) n l h = elim (cases_eq n 1) [
    | inl e ↦ record { steps = 0; root = e }
    | inr s ↦ climbs-above n (slot files n) refl h s (λ up directory less. climbs-below k up (omega arith) directory)
  ]

  -- ---- the rules

  pub KeepsRules-live : KeepsRules files
  KeepsRules-live = record {
    root = ap (λ o. unwrap_or (option_map is_directory o) false) keeps.root.here;
    sizes = keeps.sizes;
    nodes = nodes-kept;
    reached = IsReached-from files (λ n. EntriesAt-from files n (slot files n) (nodes-kept n))
        (λ n. LinksAt-from files n (slot files n) (nodes-kept n))
        (λ n h. climbs-below (suc (keeps.depth n)) n (omega arith) h);
  }

-- ---- how many steps lead to the root, at most k

level : Files → ℕ → ℕ → ℕ
level files zero n = 0
level files (suc k) n = cond (n == 1) 0 (suc (level files k (parent_of files n)))

level-root : (files : Files) (k : ℕ) → level files k 1 ≡ 0
unfolding level
level-root files zero = refl
level-root files (suc k) = refl

level-next : (files : Files) (k n : ℕ) → n ≢ 1 → level files (suc k) n ≡ suc (level files k (parent_of files n))
unfolding level
level-next files k n s = cond-false (n == 1) 0 (suc (level files k (parent_of files n))) (ne_eqb n 1 s)

-- more steps than it takes make no difference
level-same : (files : Files) (j k n : ℕ) → ancestor files j n ≡ 1 → ancestor files k n ≡ 1
    → level files j n ≡ level files k n
level-same files zero k n g h = ap (level files zero) g ∙ level-root files zero
    ∙ sym (ap (level files k) g ∙ level-root files k)
level-same files (suc j) zero n g h = ap (level files (suc j)) h ∙ level-root files (suc j)
    ∙ sym (ap (level files zero) h ∙ level-root files zero)
level-same files (suc j) (suc k) n g h = elim (cases_eq n 1) [
  | inl e ↦ ap (level files (suc j)) e ∙ level-root files (suc j)
      ∙ sym (ap (level files (suc k)) e ∙ level-root files (suc k))
  | inr s ↦ level-next files j n s ∙ ap suc (level-same files j k _ g h) ∙ sym (level-next files k n s)
]

module _ {files : Files} (rules : KeepsRules files) where
  climbs : (n : ℕ) → is_directory_at files n ≡ true → Climbs files n
  climbs = Climbs-reached files (λ n. EntriesAt-from files n _ (rules.nodes n)) rules.reached

  -- ---- how many names there are

  entry-numbers : (n : ℕ) (o : Option Node) → KeepsNode files n o
      → All (λ (e : Entry). IsSome (slot files e.number)) (entries_of o)
  entry-numbers n (Some (Directory links places)) k = k.numbers
  entry-numbers n o k = All-nil (λ (e : Entry). IsSome (slot files e.number))

  unused-names : (n : ℕ) → slot files n ≡ None → names_of files n ≡ 0
  unfolding names_of
  unused-names n free =
      count_by-none (λ (e : ℕ × Entry). e.1.number == n) _
      (all-entries files (λ e. (e.1.number == n) ≡ false) (λ d k e l.
      let x = get_or (entries_of (slot files d)) k e in
      ne_eqb _ n (λ same. false≢true
      (sym (ap is_some (ap (slot files) same ∙ free)) ∙ entry-numbers d (slot files d) (rules.nodes d) k e l))))

  -- ---- directories

  node-from : (n : ℕ) (o : Option Node) → slot files n ≡ o → KeepsNode files n o
      → (names_of files n ≡ names_for n o) × KeepsLive files n o
  node-from n None here k = (unused-names n here, tt)
  node-from n (Some (Directory zero places)) here k = absurd (let c = k.counted in omega arith)
  node-from n (Some (Directory (suc links) places)) here k = (
    k.named,
    record {
      own = k.own;
      up = parent_of files n;
      parent = k.parent;
      above = record {
        root = λ e. ap (parent_of files) e ∙ parent_root files;
        names = λ s. parent-names files n s (let c = k.named ∙ cond-false (n == 1) 0 1 (ne_eqb n 1 s) in omega arith);
      };
      good = count_by-none (λ (e : Entry). not (is_name e.name)) (entries places) (λ i e l. ap not (k.names i e l));
      once = once-count (entries places) k.once;
      counted = let c = k.counted in omega (arith, folders-are files n (suc links) places here);
    },
  )
  node-from n _ here k = (sym k.counted, k.most)

  -- ---- ranks

  level-at : (n : ℕ) (b : Bool) → is_directory_at files n ≡ b → ℕ
  level-at n true h = level files (climbs n h).steps n
  level-at n false h = 0

  rank : ℕ → ℕ
  rank n = level-at n _ refl

  -- it is the level by any steps that lead to the root
  level-is : (n : ℕ) (b : Bool) (h : is_directory_at files n ≡ b) → b ≡ true → (k : ℕ) → ancestor files k n ≡ 1
      → level-at n b h ≡ level files k n
  unfolding level-at
  level-is n true h t k root = level-same files (climbs n h).steps k n (climbs n h).root root
  level-is n false h t k root = absurd (false≢true t)

  rank-is : (n : ℕ) → is_directory_at files n ≡ true → (k : ℕ) → ancestor files k n ≡ 1 → rank n ≡ level files k n
  unfolding rank
  rank-is n h k root = level-is n _ refl h k root

  directory-named : (n : ℕ) (o : Option Node) → KeepsNode files n o
      → unwrap_or (option_map is_directory o) false ≡ true → names_of files n ≡ cond (n == 1) 0 1
  directory-named n (Some (Directory links places)) k h = k.named
  directory-named n _ k h = absurd (false≢true h)

  pub directory-once : (n : ℕ) → is_directory_at files n ≡ true → names_of files n ≡ cond (n == 1) 0 1
  directory-once n h = directory-named n (slot files n) (rules.nodes n) h

  ranks : IsRanked files rank
  ranks d n h directory =
      let once = directory-once n directory in
      let some : 1 ≤ names_of files n = omega (arith, h, names_by-le files d n) in
      let other : n ≢ 1 = λ e. let none : names_of files n ≡ 0 = once
      ∙ cond-true (n == 1) 0 1 (eq-eqb n 1 e) in absurd (omega arith) in
      let parent = parent-only files n d other (once ∙ cond-false (n == 1) 0 1 (ne_eqb n 1 other)) h in
      let above = naming-directory files d n h in
      let way = climbs d above in
      let root : ancestor files (suc way.steps) n ≡ 1 = ap (ancestor files way.steps) parent ∙ way.root in
      let high : rank n ≡ suc (level files way.steps d) = rank-is n directory (suc way.steps) root
      ∙ level-next files way.steps n other ∙ ap (λ p. suc (level files way.steps p)) parent in
      omega (arith, high, rank-is d above way.steps way.root)

  -- ---- the root

  root-from : (o : Option Node) → slot files 1 ≡ o → KeepsNode files 1 o
      → unwrap_or (option_map is_directory o) false ≡ true → HasRoot files
  root-from (Some (Directory zero places)) here k h = absurd (let c = k.counted in omega arith)
  root-from (Some (Directory (suc links) places)) here k h = record { links = links; places = places; here = here }
  root-from _ here k h = absurd (false≢true h)

  pub KeepsTree-rules : KeepsTree files
  KeepsTree-rules = record {
    root = root-from (slot files 1) refl (rules.nodes 1) rules.root;
    sizes = rules.sizes;
    named = λ n. (node-from n (slot files n) refl (rules.nodes n)).0;
    nodes = λ n. (node-from n (slot files n) refl (rules.nodes n)).1;
    depth = rank;
    ranked = ranks;
  }

  -- each node has a link
  pub linked-rules : (n : ℕ) (node : Node) → slot files n ≡ Some node → 1 ≤ links_of node
  linked-rules n node here = go node (subst (KeepsNode files n) here (rules.nodes n)) where
    go : (node : Node) → KeepsNode files n (Some node) → 1 ≤ links_of node
    go (Directory links places) k = let counted = k.counted in omega arith
    go _ k = k.least
