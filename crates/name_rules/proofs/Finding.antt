-- What follows where the definitions of calls on names have a result.
use Rattle.name_rules.proofs.Common.{◌≡◌, ◌≢◌, ℕ, suc, ◌+◌, ◌*◌, ◌<◌, ◌≤◌, Bool, true, false, cond, List, [], ◌∷◌, None}
use Rattle.name_rules.proofs.Common.{Option, Some, inl, inr, length, drop, get_or, set, ap, sym, refl, ◌∙◌, arith}
use Rattle.name_rules.proofs.Common.{subst, bytes_eq, count_by, is_none, option_map, cases_eq, cases_lt, cond-true}
use Rattle.name_rules.proofs.Common.{false≢true, lt-ltb, ltb-true, get_or-drop, get_or-set_other, get_or-set_same}
use Rattle.name_rules.proofs.Common.{get_or_past, length-append, length-drop, length-set, position-Some}
use Rattle.name_rules.proofs.Common.{fails_before_first, sum_by-le, cond_some, none-some, option_and_then_some}
use Rattle.name_rules.proofs.Common.{same_Some, bytes_eq-Decides, Entry, Files, Node, Spot, change_node, dot, dot_dot}
use Rattle.name_rules.proofs.Common.{enter, free_number, is_dot_name, longest, lookup, place_of, put, slot, with_entry}
use Rattle.name_rules.proofs.Common.{with_entry_at, Directory, is_name, Made, make_at, may_remove, removed_node}
use Rattle.name_rules.proofs.Common.{unlinked, without_name, IsLive, entries, zero, cond_both, is_some, ◌==◌, find}
use Rattle.name_rules.proofs.Common.{KeepsLive, KeepsTree, IsSome, eq-eqb, get_or-le-sum_by, names_of, names_by}
use Rattle.name_rules.proofs.Common.{names_for}
use Rattle.name_rules.proofs.Counts.{called, counted-none, HasTwo, count-taken, none-is, two-places, weight}
use Rattle.name_rules.proofs.Counts.{counted-one, names_by-le, names_by-none}
use Rattle.std.proofs.lemmas.Bool.{false_from_ne_true, or_from}
use Rattle.std.specs.Prelude.{option_and_then, position}
use Rattle.unixmodel.specs.Files.{entry_number, follow, has_name, live_places, start_of, with_places}

-- ---- slots of a list

pub slot-within : {X : Type 0} (xs : List (Option X)) (k : ℕ) (x : X) → slot xs k ≡ Some x → k < length xs
slot-within xs k x h = elim (cases_lt k _) [
  | inl l ↦ l
  | inr past ↦ absurd (none-some x (sym (get_or_past xs k None past) ∙ h))
]

-- what holds of the item that is set, and of the others
pub slot-set : {X : Type 0} (P : Option X → Type 0) (xs : List (Option X)) (n : ℕ) (o : Option X) → n < length xs
    → (m : ℕ) → (m ≡ n → P o) → (m ≢ n → P (slot xs m)) → P (slot (set xs n o) m)
slot-set P xs n o l m here other = elim (cases_eq m n) [
  | inl e ↦ subst P (sym (ap (slot (set xs n o)) e ∙ get_or-set_same xs n o None l)) (here e)
  | inr s ↦ subst P (sym (get_or-set_other xs n m o None s)) (other s)
]

pub change-is : (files : Files) (n : ℕ) (change : Node → Node) (node : Node) → slot files n ≡ Some node
    → change_node files n change ≡ put files n (change node)
change-is files n change node h = ap (λ o. set files n (option_map change o)) h

-- what a map of an option gives
pub mapped : {A B : Type 0} (f : A → B) (o : Option A) (y : B) → option_map f o ≡ Some y
    → (x : A) × (o ≡ Some x) × (f x ≡ y)
mapped f None y h = absurd (none-some y h)
mapped f (Some x) y h = (x, refl, same_Some _ y h)

-- the slots of a directory that has links
pub living : (o : Option Node) (places : List (Option Entry)) → live_places o ≡ Some places
    → (links : ℕ) × (o ≡ Some (Directory (suc links) places))
living (Some (Directory (suc links) ps)) places h =
    (links, ap (λ qs. Some (Directory (suc links) qs)) (same_Some ps places h))
living _ places h = absurd (none-some places h)

-- the number for a new node is free
pub record IsFree (files : Files) (n : ℕ) : Type 0 where
  pub free : slot files n ≡ None
  pub within : n < length files

pub free-number : (files : Files) (n : ℕ) → free_number files ≡ Some n → IsFree files n
unfolding free_number
free-number files n h =
    let k = mapped suc _ n h in
    let is = position-Some is_none _ k.0 None k.1 in
    let e : 1 + k.0 ≡ n = omega (arith, k.2) in
    record {
      free = ap (slot files) (sym e) ∙ sym (get_or-drop 1 files k.0 None)
          ∙ none-is (slot (drop 1 files) k.0) is.1;
      within = omega (arith, e, is.0, length-drop 1 files);
    }

-- ---- one more name

-- d is a directory with links that has no such name, and it is a name
pub record IsGap (files : Files) (at : Spot) : Type 0 where
  pub links : ℕ
  pub places : List (Option Entry)
  pub here : slot files at.directory ≡ Some (Directory (suc links) places)
  pub name : is_name at.name ≡ true
  pub absent : lookup files at.directory at.name ≡ None

abbrev pub entry_at : Spot → ℕ → Entry
entry_at at n = record { name = at.name; number = n }

pub record IsEntered (files : Files) (at : Spot) (n : ℕ) (more : Files) : Type 0 where
  pub links : ℕ
  pub places : List (Option Entry)
  pub next : List (Option Entry)
  pub here : slot files at.directory ≡ Some (Directory (suc links) places)
  pub placed : with_entry places (entry_at at n) ≡ Some next
  pub is : more ≡ put files at.directory (Directory (suc links) next)

pub enter-parts : (files : Files) (at : Spot) (n : ℕ) (more : Files) → enter files at n ≡ Some more
    → IsEntered files at n more
unfolding enter
enter-parts files at n more h =
    let new = mapped (λ places. change_node files at.directory (λ node. with_places node places))
    (option_and_then (λ places. with_entry places (entry_at at n)) _) more h in
    option_and_then_some (λ places. with_entry places (entry_at at n)) _ new.0 new.1 (λ places some placed.
    let is = living _ places some in
    record {
      links = is.0;
      places = places;
      next = new.0;
      here = is.1;
      placed = placed;
      is = sym new.2 ∙ change-is files at.directory (λ node. with_places node new.0) (Directory (suc is.0) places) is.1;
    })

-- the slots fit into a file
pub entered-size : (places : List (Option Entry)) (e : Entry) (qs : List (Option Entry))
    → with_entry places e ≡ Some qs → 16 * length places ≤ longest → 16 * length qs ≤ longest
unfolding with_entry
entered-size places e qs h size = go _ h where
  go : (o : Option ℕ) → with_entry_at places e o ≡ Some qs → 16 * length qs ≤ longest
  go None h =
      let is = cond_some _ _ qs h in
      omega (arith, ltb-true (length places) _ is.0, ap length is.1, length-append places (Some e ∷ []))
  go (Some k) h = subst (λ c. 16 * c ≤ longest) (sym (ap length (sym (same_Some _ qs h)) ∙ length-set places k _)) size

pub record IsMade (files : Files) (at : Spot) (node : ℕ → Node) (made : Made) : Type 0 where
  pub free : IsFree files made.number
  pub entered : enter (put files made.number (node made.number)) at made.number ≡ Some made.files

pub make-parts : (files : Files) (at : Spot) (node : ℕ → Node) (made : Made) → make_at files at node ≡ Some made
    → IsMade files at node made
unfolding make_at
make-parts files at node made h =
    let numbered : ℕ → Files → Made = λ n new. record { files = new; number = n } in
    option_and_then_some (λ n. option_map (numbered n) (enter (put files n (node n)) at n)) _ made h (λ n free rest.
    let new = mapped _ _ made rest in
    subst (IsMade files at node) new.2 (record { free = free-number files n free; entered = new.1 }))

-- ---- no name

-- where no item passes
pub position-None : {X : Type 0} (p : X → Bool) (xs : List X) (d : X) → position p xs ≡ None → (k : ℕ) → k < length xs
    → p (get_or xs k d) ≡ false
position-None p xs d none k h =
    elim (cases_lt _ _) [
      | inl l ↦ absurd (none-some _ (sym none ∙ cond-true _ _ None (lt-ltb _ _ l)))
      | inr m ↦ fails_before_first p xs k d (omega arith)
    ]

weightless : (name : List ℕ) (o : Option Entry) → has_name name o ≡ false → weight (λ x. bytes_eq x.name name) o ≤ 0
unfolding weight
weightless name None h = omega arith
weightless name (Some e) h = omega (arith, counted-none h)

no-place : (name : List ℕ) {places : List (Option Entry)} {a b : Entry} → HasTwo places a b
    → position (has_name name) places ≡ None → called name places ≡ 0
no-place name {places} {a} {b} two h =
    subst (λ ps. position (has_name name) ps ≡ None → called name ps ≡ 0) (sym two.is)
    (λ none.
    let f = weight (λ (x : Entry). bytes_eq x.name name) in
    let all = sum_by-le f 0 _
    (λ k o l. weightless name (get_or _ k o)
    (position-None (has_name name) (Some a ∷ Some b ∷ two.rest) o none (suc (suc k)) (omega arith))) in
    omega (arith, all, count-taken (λ (x : Entry). bytes_eq x.name name) two.rest))
    h

pub some_entry : (name : List ℕ) (o : Option Entry) → has_name name o ≡ true
    → (e : Entry) × (o ≡ Some e) × (bytes_eq e.name name ≡ true)
some_entry name None h = absurd (false≢true h)
some_entry name (Some e) h = (e, refl, h)

module _ (files : Files) (d links : ℕ) (places : List (Option Entry)) (name : List ℕ)
    (here : slot files d ≡ Some (Directory (suc links) places)) where
  pub lookup-is : lookup files d name ≡ entry_number (option_and_then (slot places) (position (has_name name) places))
  unfolding lookup
  lookup-is = ap (λ o. option_and_then (λ ps. entry_number (option_and_then (slot ps) (position (has_name name) ps)))
      (live_places o)) here

  nowhere : lookup files d name ≡ None → position (has_name name) places ≡ None
  nowhere absent = go _ refl where
    go : (o : Option ℕ) → position (has_name name) places ≡ o → o ≡ None
    go None f = refl
    go (Some k) f =
        let is = position-Some _ places k None f in
        let e = some_entry name _ is.1 in
        absurd (none-some _ (sym absent ∙ lookup-is ∙ ap (λ o. entry_number (option_and_then (slot places) o)) f
        ∙ ap entry_number e.1))

  pub absent-none : (live : IsLive files d links places) → lookup files d name ≡ None → called name places ≡ 0
  absent-none live absent = no-place name (two-places live.own live.parent) (nowhere absent)

  -- "." and ".." are there
  not-place : (k : ℕ) (e : Entry) → lookup files d name ≡ None → slot places k ≡ Some e → bytes_eq name e.name ≡ false
  not-place k e absent at =
      let away = ap (has_name name) (sym at)
      ∙ position-None (has_name name) places None (nowhere absent) k (slot-within places k e at) in
      false_from_ne_true _ (λ t. false≢true
      (sym away ∙ (bytes_eq-Decides e.name name).1 (sym ((bytes_eq-Decides name e.name).0 t))))

  pub absent-plain : (live : IsLive files d links places) → lookup files d name ≡ None → is_dot_name name ≡ false
  absent-plain live absent = or_from _ _ (not-place 0 _ absent live.own) (not-place 1 _ absent live.parent)

-- ---- one name less

-- the name is in slot k of d, past the first two, and is that of node n
pub record IsNamed (files : Files) (at : Spot) (k n : ℕ) : Type 0 where
  pub links : ℕ
  pub places : List (Option Entry)
  pub here : slot files at.directory ≡ Some (Directory (suc links) places)
  pub spelled : List ℕ
  pub placed : slot places k ≡ Some (record { name = spelled; number = n })
  pub name : bytes_eq spelled at.name ≡ true
  pub within : k < length places

pub named-parts : (files : Files) (at : Spot) (k n : ℕ) → place_of files at.directory at.name ≡ Some k
    → lookup files at.directory at.name ≡ Some n → IsNamed files at k n
unfolding place_of
named-parts files at k n h look = option_and_then_some _ _ k h (λ places some first.
    let dir = living _ places some in
    let is = position-Some _ places k None first in
    let e = some_entry at.name _ is.1 in
    let number : e.0.number ≡ n =
    same_Some _ n (sym (lookup-is files _ dir.0 places at.name dir.1
    ∙ ap (λ o. entry_number (option_and_then (slot places) o)) first ∙ ap entry_number e.1) ∙ look) in
    record {
      links = dir.0;
      places = places;
      here = dir.1;
      spelled = e.0.name;
      placed = subst (λ m. slot places k ≡ Some (record { name = e.0.name; number = m })) number e.1;
      name = e.2;
      within = is.0;
    })

pub record IsUnlinked (files : Files) (at : Spot) (more : Files) : Type 0 where
  pub plain : is_dot_name at.name ≡ false
  pub place : ℕ
  pub number : ℕ
  pub node : Node
  pub named : IsNamed files at place number
  pub found : lookup files at.directory at.name ≡ Some number
  pub here : slot files number ≡ Some node
  pub may : may_remove node ≡ true
  pub is : more ≡ without_name files at.directory place number node

pub unlink-parts : (files : Files) (at : Spot) (more : Files) → unlinked files at ≡ Some more → IsUnlinked files at more
unfolding unlinked
unlink-parts files at more h =
    let removed : ℕ → ℕ → Option Files = λ k n. removed_node files _ k n (slot files n) in
    let plain = refused _ (option_and_then (λ k. option_and_then (removed k) (lookup files at.directory at.name)) _)
    more h in
    option_and_then_some (λ k. option_and_then (removed k) (lookup files at.directory at.name)) _ more plain.1
    (λ k place rest.
    option_and_then_some _ _ more rest
    (λ n look last. found k n (named-parts files at k n place look) look plain.0 _ refl last))
  where
    refused : (b : Bool) (o : Option Files) (more : Files) → cond b None o ≡ Some more → (b ≡ false) × (o ≡ Some more)
    refused true o more h = absurd (none-some more h)
    refused false o more h = (refl, h)

    found : (k n : ℕ) → IsNamed files at k n → lookup files at.directory at.name ≡ Some n → is_dot_name at.name ≡ false
        → (o : Option Node) → slot files n ≡ o → removed_node files at.directory k n o ≡ Some more
        → IsUnlinked files at more
    found k n named look p None f h = absurd (none-some more h)
    found k n named look p (Some node) f h =
        let is = cond_some _ _ more h in
        record {
          plain = p;
          place = k;
          number = n;
          node = node;
          named = named;
          found = look;
          here = f;
          may = is.0;
          is = sym is.1;
        }

-- ---- each slot in use of a directory with links names a node

-- what has a name, and what names, is a node
wanted-used : (n : ℕ) (o : Option Node) → 1 ≤ names_for n o → IsSome o
wanted-used n None h = absurd (omega arith)
wanted-used n (Some node) h = refl

pub named-used : {files : Files} (keeps : KeepsTree files) (n : ℕ) → 1 ≤ names_of files n → IsSome (slot files n)
named-used {files} keeps n h = wanted-used n _ (omega (arith, h, keeps.named n))

pub naming-used : (o : Option Node) (n : ℕ) → 1 ≤ names_by o n → IsSome o
naming-used None n h = absurd (omega (arith, h, names_by-none n))
naming-used (Some node) n h = refl

module _ {files : Files} (keeps : KeepsTree files) (d links : ℕ) (places : List (Option Entry))
    (here : slot files d ≡ Some (Directory (suc links) places)) where
  live : IsLive files d links places
  live = subst (KeepsLive files d) here (keeps.nodes d)

  above-used : IsSome (slot files live.up)
  above-used = elim (cases_eq d 1) [
    | inl e ↦ ap is_some (ap (slot files) (live.above.root e) ∙ keeps.root.here)
    | inr s ↦ naming-used _ d (live.above.names s)
  ]

  entry-used : (k : ℕ) (e : Entry) {a b : Entry} (two : HasTwo places a b) → slot two.rest k ≡ Some e
      → IsSome (slot files e.number)
  unfolding names_by weight
  entry-used k e {a} {b} two h =
      let p : Entry → Bool = λ x. x.number == e.number in
      let one = counted-one (eq-eqb e.number e.number refl) in
      let item = get_or-le-sum_by (weight p) two.rest k None (slot-within two.rest k e h) in
      let count : names_by (slot files d) e.number ≡ count_by p (entries (Some a ∷ Some b ∷ two.rest)) =
      ap (λ o. names_by o e.number) here ∙ ap (λ ps. count_by p (entries ps)) two.is in
      named-used keeps e.number
      (omega (arith, one, item, ap (weight p) h, count, count-taken p two.rest, names_by-le files d e.number))

  -- what unlink and the search along a path need
  pub numbers-used : (k : ℕ) (e : Entry) → slot places k ≡ Some e → IsSome (slot files e.number)
  numbers-used zero e h = subst (λ (x : Entry). IsSome (slot files x.number))
      (same_Some (record { name = dot; number = d }) e (sym live.own ∙ h)) (ap is_some here)
  numbers-used (suc zero) e h =
      subst (λ (x : Entry). IsSome (slot files x.number))
      (same_Some (record { name = dot_dot; number = live.up }) e (sym live.parent ∙ h)) above-used
  numbers-used (suc (suc k)) e h = let two =
      two-places live.own live.parent in entry-used k e two (ap (λ ps. slot ps (suc (suc k))) (sym two.is) ∙ h)

-- ---- what a path finds is a node

module _ {files : Files} (keeps : KeepsTree files) where
  pub lookup-used : (d : ℕ) (name : List ℕ) (n : ℕ) → lookup files d name ≡ Some n → IsSome (slot files n)
  unfolding lookup
  lookup-used d name n h =
      option_and_then_some (λ places. entry_number (option_and_then (slot places) (position (has_name name) places))) _
      n h (λ places some rest.
      let dir = living _ places some in
      let e = mapped (λ (x : Entry). x.number) _ n rest in
      option_and_then_some _ _ e.0 e.1
      (λ k _ at. subst (λ m. IsSome (slot files m)) e.2 (numbers-used keeps d dir.0 places dir.1 k e.0 at)))

  pub follow-used : (names : List (List ℕ)) (d n : ℕ) → IsSome (slot files d) → follow files d names ≡ Some n
      → IsSome (slot files n)
  follow-used [] d n used h = subst (λ m. IsSome (slot files m)) (same_Some d n h) used
  follow-used (name ∷ names) d n used h =
      option_and_then_some (λ next. follow files next names) _ n h
      (λ m at rest. follow-used names m n (lookup-used d name m at) rest)

  pub start-used : (d : ℕ) (path : List ℕ) → IsSome (slot files d) → IsSome (slot files (start_of d path))
  start-used d [] used = used
  start-used d (b ∷ bs) used =
      cond_both _ 1 d (λ m. IsSome (slot files m)) (λ t. ap is_some keeps.root.here) (λ t. used)

  pub find-used : (d : ℕ) (path : List ℕ) (n : ℕ) → IsSome (slot files d) → find files d path ≡ Some n
      → IsSome (slot files n)
  unfolding find
  find-used d path n used h = follow-used _ _ n (start-used d path used) h
