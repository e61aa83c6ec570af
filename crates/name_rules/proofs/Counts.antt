-- How many slots name a number, as a sum over the nodes, and this sum where nodes change.
use Rattle.name_rules.proofs.Common.{◌≡◌, ◌≢◌, ℕ, ◌+◌, ◌<◌, ◌≤◌, Bool, true, false, cond, List, [], ◌∷◌, None, inl, inr}
use Rattle.name_rules.proofs.Common.{length, map, get_or, set, ap, ap₂, sym, refl, ◌∙◌, arith, All, count_by, flat_map}
use Rattle.name_rules.proofs.Common.{sum_by, ◌==◌, range_with_len, cases_eq, cases_lt, get_or-set_other}
use Rattle.name_rules.proofs.Common.{get_or-set_same, get_or_past, length-set, All-head, All-tail, get_or-le-sum_by}
use Rattle.name_rules.proofs.Common.{sum_by-append, sum_by-cons, sum_by-set, Entry, Files, slot, all_entries}
use Rattle.name_rules.proofs.Common.{entries_of, names_of, names_by, suc, ◌++◌, Option, Some, subst, bytes_eq, is_none}
use Rattle.name_rules.proofs.Common.{not, cases_Bool, eq-eqb, false≢true, ne_eqb, position-Some, bytes_eq-Decides}
use Rattle.name_rules.proofs.Common.{cond_some, none-some, same_Some, clear, free_slot, put, taken, with_entry}
use Rattle.name_rules.proofs.Common.{with_entry_at, Directory, is_directory_at, is_name, entries, folders, Node}
use Rattle.name_rules.proofs.Common.{IsAbove, KeepsLive}
use Rattle.std.proofs.lemmas.List.FromFn.{fill_by_all}

-- ---- the count of one item

pub counted-one : {b : Bool} → b ≡ true → ◌≡◌ {A = ℕ} (cond b 1 0) 1
counted-one h = ap (λ b. cond b 1 0) h

pub counted-none : {b : Bool} → b ≡ false → ◌≡◌ {A = ℕ} (cond b 1 0) 0
counted-none h = ap (λ b. cond b 1 0) h

-- ---- sums

sum_by-map : {X Y : Type 0} (f : Y → ℕ) (g : X → Y) (xs : List X) → sum_by f (map g xs) ≡ sum_by (λ x. f (g x)) xs
sum_by-map f g [] = refl
sum_by-map f g (x ∷ xs) = rw (sum_by-cons f (g x) (map g xs), sum_by-cons (λ y. f (g y)) x xs, sum_by-map f g xs) refl

sum_by-flat_map : {X Y : Type 0} (f : Y → ℕ) (g : X → List Y) (xs : List X)
    → sum_by f (flat_map g xs) ≡ sum_by (λ x. sum_by f (g x)) xs
sum_by-flat_map f g [] = refl
sum_by-flat_map f g (x ∷ xs) =
    rw (sum_by-append f (g x) (flat_map g xs), sum_by-cons (λ y. sum_by f (g y)) x xs, sum_by-flat_map f g xs) refl

pub count_by-same : {X : Type 0} (p q : X → Bool) (xs : List X) → All (λ x. p x ≡ q x) xs
    → count_by p xs ≡ count_by q xs
count_by-same p q [] h = refl
count_by-same p q (x ∷ xs) h =
    rw (
      sum_by-cons (λ y. cond (p y) 1 0) x xs,
      sum_by-cons (λ y. cond (q y) 1 0) x xs,
      All-head (λ y. p y ≡ q y) x xs h,
      count_by-same p q xs (All-tail (λ y. p y ≡ q y) x xs h),
    ) refl

-- an item of a list is counted
pub count_by-item : {X : Type 0} (p : X → Bool) (xs : List X) (k : ℕ) (d : X) → k < length xs
    → cond (p (get_or xs k d)) 1 0 ≤ count_by p xs
count_by-item p xs k d l = get_or-le-sum_by (λ x. cond (p x) 1 0) xs k d l

-- ---- names

-- number by number
by_number : (files : Files) (n : ℕ)
    → names_of files n ≡ sum_by (λ d. names_by (slot files d) n) (range_with_len 0 (length files))
unfolding names_of all_entries names_by
by_number files n =
    let test : ℕ × Entry → ℕ = λ e. cond (e.1.number == n) 1 0 in
    sum_by-flat_map test (λ d. map (λ e. (d, e)) (entries_of (slot files d))) (range_with_len 0 (length files))
    ∙ (λ j. sum_by (λ d. sum_by-map test (λ (e : Entry). (d, e)) (entries_of (slot files d)) j)
    (range_with_len 0 (length files)))

-- node by node
pub names-sum : (files : Files) (n : ℕ) → names_of files n ≡ sum_by (λ o. names_by o n) files
names-sum files n =
    by_number files n ∙ sym (sum_by-map (λ o. names_by o n) (slot files) (range_with_len 0 (length files)))
    ∙ ap (sum_by (λ o. names_by o n)) (sym (fill_by_all _ files _ None refl (λ k l. refl)))

pub names-same : (files more : Files) (n : ℕ) → length more ≡ length files
    → ((p : ℕ) → names_by (slot more p) n ≡ names_by (slot files p) n) → names_of more n ≡ names_of files n
names-same files more n count same = by_number more n ∙ (λ j. sum_by (λ d. same d j) (range_with_len 0 (count j)))
    ∙ sym (by_number files n)

-- where node d alone changes
pub names-but : (files more : Files) (d n : ℕ) → length more ≡ length files → d < length files
    → ((p : ℕ) → p ≢ d → names_by (slot more p) n ≡ names_by (slot files p) n)
    → names_of more n + names_by (slot files d) n ≡ names_of files n + names_by (slot more d) n
names-but files more d n count within same =
    let mid = set files d _ in
    let e : names_of more n ≡ names_of mid n =
    names-same mid more n (count ∙ sym (length-set files d _)) (λ p. elim (cases_eq p d) [
      | inl h ↦ ap (λ j. names_by (slot more j) n) h
          ∙ ap (λ o. names_by o n) (sym (get_or-set_same files d _ None within))
          ∙ ap (λ j. names_by (slot mid j) n) (sym h)
      | inr h ↦ same p h ∙ ap (λ o. names_by o n) (sym (get_or-set_other files d p _ None h))
    ]) in
    omega (
      arith,
      e,
      names-sum mid n,
      names-sum files n,
      sum_by-set (λ o. names_by o n) files d (slot more d) None within,
    )

pub names_by-none : (n : ℕ) → names_by None n ≡ 0
unfolding names_by
names_by-none n = refl

pub names_by-le : (files : Files) (p n : ℕ) → names_by (slot files p) n ≤ names_of files n
names_by-le files p n = elim (cases_lt p (length files)) [
  | inl l ↦ omega (arith, names-sum files n, get_or-le-sum_by (λ o. names_by o n) files p None l)
  | inr past ↦ omega (arith, ap (λ o. names_by o n) (get_or_past files p None past), names_by-none n)
]

-- ---- the slots of a directory with one more entry: counts of its entries

-- how many entries have a name, and how many have one that isn't good
abbrev pub called : List ℕ → List (Option Entry) → ℕ
called name places = count_by (λ (x : Entry). bytes_eq x.name name) (entries places)

abbrev pub unfit : List (Option Entry) → ℕ
unfit places = count_by (λ (x : Entry). not (is_name x.name)) (entries places)

-- `more` has an entry that `less` lacks, past the first two slots
pub record HasMore (less more : List (Option Entry)) (e : Entry) : Type 0 where
  pub first : slot more 0 ≡ slot less 0
  pub second : slot more 1 ≡ slot less 1
  pub counts : (p : Entry → Bool) → count_by p (entries more) ≡ count_by p (entries less) + cond (p e) 1 0

-- ---- counts of what slots hold

unfoldable pub weight : (Entry → Bool) → Option Entry → ℕ
weight p None = 0
weight p (Some e) = cond (p e) 1 0

pub count-taken : (p : Entry → Bool) (os : List (Option Entry)) → count_by p (taken os) ≡ sum_by (weight p) os
unfolding weight
count-taken p [] = refl
count-taken p (None ∷ os) = omega (arith, count-taken p os, sum_by-cons (weight p) None os)
count-taken p (Some e ∷ os) = sum_by-cons (λ x. cond (p x) 1 0) e (taken os)
    ∙ ap (λ n. cond (p e) 1 0 + n) (count-taken p os) ∙ sym (sum_by-cons _ (Some e) os)

pub none-is : {X : Type 0} (o : Option X) → is_none o ≡ true → o ≡ None
none-is None f = refl
none-is (Some x) f = absurd (false≢true f)

-- ---- two slots, and the rest

-- a directory begins with two entries
pub record HasTwo (places : List (Option Entry)) (a b : Entry) : Type 0 where
  pub rest : List (Option Entry)
  pub is : places ≡ Some a ∷ Some b ∷ rest

pub two-places : {places : List (Option Entry)} {a b : Entry} → slot places 0 ≡ Some a → slot places 1 ≡ Some b
    → HasTwo places a b
two-places {places = []} {a = a} f g = absurd (none-some a f)
two-places {places = o ∷ []} {b = b} f g = absurd (none-some b g)
two-places {places = o ∷ q ∷ os} f g = record { rest = os; is = ap₂ (λ x y. x ∷ y ∷ os) f g }

abbrev with_two : Entry → Entry → List (Option Entry) → List (Option Entry)
with_two a b rest = Some a ∷ Some b ∷ rest

-- another item in a slot
set-counts : (rest : List (Option Entry)) (k : ℕ) (o : Option Entry) → k < length rest → (p : Entry → Bool)
    → count_by p (taken (set rest k o)) + weight p (slot rest k) ≡ count_by p (taken rest) + weight p o
set-counts rest k o l p =
    omega (arith, count-taken p rest, count-taken p (set rest k o), sum_by-set (weight p) rest k o None l)

module _ {a b : Entry} (e : Entry) where
  pub entered : {places : List (Option Entry)} → HasTwo places a b → {qs : List (Option Entry)}
      → with_entry places e ≡ Some qs → HasMore places qs e
  unfolding with_entry weight
  entered {places} two {qs} h = go _ refl h where
    at : (k : ℕ) (rest : List (Option Entry)) → k < length (with_two a b rest)
        → is_none (slot (with_two a b rest) k) ≡ true → HasMore (with_two a b rest) (put (with_two a b rest) k e) e
    at (suc (suc k)) rest l f =
        record {
          first = refl;
          second = refl;
          counts = λ p. omega (
            arith,
            set-counts rest k (Some e) (omega arith) p,
            ap (weight p) (none-is (slot rest k) f),
          );
        }
    at _ rest l f = absurd (false≢true f)

    past : (rest : List (Option Entry)) → HasMore (with_two a b rest) (with_two a b rest ++ Some e ∷ []) e
    past rest = record {
      first = refl;
      second = refl;
      counts = λ p. omega (
        arith,
        count-taken p rest,
        count-taken p (rest ++ Some e ∷ []),
        sum_by-append (weight p) rest (Some e ∷ []),
        sum_by-cons (weight p) (Some e) [],
      );
    }

    go : (o : Option ℕ) → free_slot places ≡ o → with_entry_at places e o ≡ Some qs → HasMore places qs e
    go None f h = subst (λ r. HasMore places r e) (cond_some _ _ qs h).1
        (subst (λ ps. HasMore ps (ps ++ Some e ∷ []) e) (sym two.is) (past _))
    go (Some k) f h =
        let is = position-Some is_none places k None f in
        subst (λ r. HasMore places r e) (same_Some _ qs h)
        (subst (λ ps. k < length ps → is_none (slot ps k) ≡ true → HasMore ps (put ps k e) e) (sym two.is) (at k _)
        is.0 is.1)

  pub erased : {places : List (Option Entry)} → HasTwo places a b → (k : ℕ) → slot places k ≡ Some e → 2 ≤ k
      → k < length places → HasMore (clear places k) places e
  unfolding weight
  erased two k here low l =
      subst (λ ps. slot ps k ≡ Some e → k < length ps → HasMore (clear ps k) ps e) (sym two.is) (at k low _) here l
    where
      at : (k : ℕ) → 2 ≤ k → (rest : List (Option Entry)) → slot (with_two a b rest) k ≡ Some e
          → k < length (with_two a b rest) → HasMore (clear (with_two a b rest) k) (with_two a b rest) e
      at (suc (suc k)) low rest here l =
          record {
            first = refl;
            second = refl;
            counts = λ p. omega (arith, set-counts rest k None (omega arith) p, ap (weight p) here);
          }
      at _ low rest here l = absurd (omega arith)

-- ---- what its entries name

module _ {less more : List (Option Entry)} {e : Entry} (h : HasMore less more e) (l r : ℕ) where
  pub named-here : names_by (Some (Directory l more)) e.number ≡ names_by (Some (Directory r less)) e.number + 1
  unfolding names_by
  named-here = h.counts (λ (x : Entry). x.number == e.number)
      ∙ ap (λ b. count_by (λ (x : Entry). x.number == e.number) (entries less) + cond b 1 0) (eq-eqb _ _ refl)

  pub named-other : (m : ℕ) → m ≢ e.number → names_by (Some (Directory l more)) m ≡ names_by (Some (Directory r less)) m
  unfolding names_by
  named-other m s = omega (arith, h.counts (λ (x : Entry). x.number == m), counted-none (ne_eqb _ m (λ q. s (sym q))))

module _ {less more : List (Option Entry)} {e : Entry} (h : HasMore less more e) where
  pub folders-more : (files : Files)
      → folders files (entries more) ≡ folders files (entries less) + cond (is_directory_at files e.number) 1 0
  unfolding folders
  folders-more files = h.counts (λ (x : Entry). is_directory_at files x.number)

  -- the names stay good, and each occurs once
  pub good-more : is_name e.name ≡ true → unfit less ≡ 0 → unfit more ≡ 0
  good-more good none = omega (arith, h.counts (λ (x : Entry). not (is_name x.name)), counted-none (ap not good), none)

  pub good-less : unfit more ≡ 0 → unfit less ≡ 0
  good-less none = omega (arith, h.counts (λ (x : Entry). not (is_name x.name)), none)

  pub once-more : called e.name less ≡ 0
      → ((name : List ℕ) → called name less ≤ 1) → (name : List ℕ) → called name more ≤ 1
  once-more absent once name =
      let counts = h.counts (λ (x : Entry). bytes_eq x.name name) in
      elim (cases_Bool (bytes_eq e.name name)) [
        | inl same ↦
            let none = subst (λ w. called w less ≡ 0) ((bytes_eq-Decides e.name name).0 same) absent in
            omega (arith, none, counts, counted-one same)
        | inr away ↦ omega (arith, once name, counts, counted-none away)
      ]

  pub once-less : ((name : List ℕ) → called name more ≤ 1) → (name : List ℕ) → called name less ≤ 1
  once-less once name = omega (arith, once name, h.counts (λ (x : Entry). bytes_eq x.name name))

-- ---- files of which some nodes change: what stays of the rules

-- the names of n alone change, and what has a name stays a directory or none
pub record IsStep (files more : Files) (n : ℕ) : Type 0 where
  pub count : length more ≡ length files
  pub names : (p m : ℕ) → m ≢ n → names_by (slot more p) m ≡ names_by (slot files p) m
  pub kinds : (m : ℕ) → 1 ≤ names_of files m → is_directory_at more m ≡ is_directory_at files m

-- an entry of a directory names a number
pub entry-names : (files : Files) (d links : ℕ) (places : List (Option Entry))
    → slot files d ≡ Some (Directory links places)
    → (k : ℕ) (e : Entry) → k < length (entries places) → 1 ≤ names_of files (get_or (entries places) k e).number
unfolding names_by
entry-names files d links places here k e l =
    let n = (get_or (entries places) k e).number in
    let one = counted-one (eq-eqb n n refl) in
    let some = count_by-item (λ (x : Entry). x.number == n) (entries places) k e l in
    let by : names_by (slot files d) n ≡ count_by (λ (x : Entry). x.number == n) (entries places) =
    ap (λ o. names_by o n) here in
    omega (arith, one, some, by, names_by-le files d n)

module _ {files more : Files} {n : ℕ} (step : IsStep files more n) where
  pub names-kept : (m : ℕ) → m ≢ n → names_of more m ≡ names_of files m
  names-kept m s = names-same files more m step.count (λ p. step.names p m s)

  pub above-kept : (m up : ℕ) → m ≢ n → IsAbove files m up → IsAbove more m up
  above-kept m up s above =
      record { root = above.root; names = λ t. subst (λ c. 1 ≤ c) (sym (step.names up m s)) (above.names t) }

  pub folders-kept : (d links : ℕ) (places : List (Option Entry)) → slot files d ≡ Some (Directory links places)
      → folders more (entries places) ≡ folders files (entries places)
  unfolding folders
  folders-kept d links places here =
      count_by-same (λ (e : Entry). is_directory_at more e.number) (λ (e : Entry). is_directory_at files e.number) _
      (λ k e l.
      step.kinds (get_or _ k e).number (entry-names files d links places here k e l))

  pub live-kept : (m : ℕ) (o : Option Node) → m ≢ n → slot files m ≡ o → KeepsLive files m o → KeepsLive more m o
  live-kept m (Some (Directory (suc links) places)) s here k = record {
    own = k.own;
    up = k.up;
    parent = k.parent;
    above = above-kept m k.up s k.above;
    good = k.good;
    once = k.once;
    counted = k.counted ∙ sym (folders-kept m _ places here);
  }
  live-kept m _ s here k = k
