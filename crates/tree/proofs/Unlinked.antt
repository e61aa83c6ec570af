-- A name goes, and what stays then; and a name is looked up in a directory.
use Rattle.tree.proofs.Common.{◌≡◌, ℕ, Bool, List, None, Option, Some, ap, sym, refl, ◌∙◌, arith, subst, true, false}
use Rattle.tree.proofs.Common.{suc, IsSome, nat_lt, option_and_then, option_map, position, ◌==◌, false≢true, lt-ltb}
use Rattle.tree.proofs.Common.{none-some, same_Some, Files, lookup, slot, ◌≢◌, cond, InodeStat, Tells, Node, Spot}
use Rattle.tree.proofs.Common.{live_places, Directory, set, get_or-set_other, Found, dropped, found_at, found_in}
use Rattle.tree.proofs.Common.{is_bare, removal, fewer_links, may_remove, removed_node, unlinked, without_name}
use Rattle.tree.proofs.Common.{HasPlace, IsFolder, IsNaming, change_node, entry_number, erase, has_name, is_directory}
use Rattle.tree.proofs.Common.{is_dot_name, place_of, slot-set, IfNone, ◌&&◌, kind_of, links_of, Entry}
use Rattle.tree.proofs.Storing.{node-of, slot-within}

-- ---- a name goes: which files the definitions make, and what the steps on the disk do

-- ---- a name among slots

-- where a name is found
pub record IsFound (places : List (Option Entry)) (name : List ℕ) (f : Found) : Type 0 where
  pub is : found_in places name ≡ Some f
  pub entry : Entry
  pub first : position (has_name name) places ≡ Some f.place
  pub here : slot places f.place ≡ Some entry
  pub number : entry.number ≡ f.number

pub found-parts : (places : List (Option Entry)) (name : List ℕ) (f : Found) → found_in places name ≡ Some f
    → IsFound places name f
unfolding found_in
found-parts places name f e = go (position (has_name name) places) refl e where
  at : (k : ℕ) → position (has_name name) places ≡ Some k → (o : Option Entry) → slot places k ≡ o
      → found_at k o ≡ Some f → IsFound places name f
  at k p None q h = absurd (none-some f h)
  at k p (Some entry) q h =
      let same = same_Some (let m : Found = record { place = k; number = entry.number } in m) f h in
      let place : k ≡ f.place = ap (λ (x : Found). x.place) same in
      record {
        is = e;
        entry = entry;
        first = p ∙ ap Some place;
        here = ap (slot places) (sym place) ∙ q;
        number = ap (λ (x : Found). x.number) same;
      }

  go : (o : Option ℕ) → position (has_name name) places ≡ o
      → option_and_then (λ k. found_at k (slot places k)) o ≡ Some f → IsFound places name f
  go None p h = absurd (none-some f h)
  go (Some k) p h = at k p (slot places k) refl h

module _ (files : Files) (d links : ℕ) (places : List (Option Entry))
    (here : slot files d ≡ Some (Directory (suc links) places)) (name : List ℕ) where
  lookup-in : lookup files d name ≡ option_map (λ (f : Found). f.number) (found_in places name)
  unfolding lookup found_in
  lookup-in = ap (λ o. option_and_then (λ ps. entry_number (option_and_then (slot ps) (position (has_name name) ps)))
      (live_places o)) here ∙ go (position (has_name name) places) where
        at : (k : ℕ) (o : Option Entry) → entry_number o ≡ option_map (λ (f : Found). f.number) (found_at k o)
        at k None = refl
        at k (Some e) = refl

        go : (o : Option ℕ) → entry_number (option_and_then (slot places) o)
            ≡ option_map (λ (f : Found). f.number) (option_and_then (λ k. found_at k (slot places k)) o)
        go None = refl
        go (Some k) = at k (slot places k)

-- ---- the definitions

pub unlinked-dot : (files : Files) (at : Spot) → is_dot_name at.name ≡ true → unlinked files at ≡ None
unfolding unlinked
unlinked-dot files at e = rw e refl

abbrev pub naming-folder : {files : Files} {d : ℕ} → IsNaming files d → IsFolder files d
naming-folder naming = record { links = suc naming.links; places = naming.places; here = naming.here }

module _ {files : Files} {d : ℕ} (naming : IsNaming files d) (name : List ℕ) where
  abbrev spot : Spot
  spot = record { directory = d; name = name }

  place-of-is : place_of files d name ≡ position (has_name name) naming.places
  unfolding place_of
  place-of-is = ap (λ o. option_and_then (position (has_name name)) (live_places o)) naming.here

  pub lookup-missing : found_in naming.places name ≡ None → lookup files d name ≡ None
  lookup-missing e = lookup-in _ d _ _ naming.here name ∙ ap (option_map (λ (f : Found). f.number)) e

  -- the files without the entry with this number in this slot
  abbrev removed : Option ℕ → Option ℕ → Option Files
  removed number place = option_and_then (λ k. option_and_then (λ n. removed_node files d k n (slot files n)) number)
      place

  no-number : (o : Option ℕ) → removed None o ≡ None
  no-number None = refl
  no-number (Some k) = refl

  unlinked-not : (b : Bool) → is_dot_name name ≡ b → (o : Option Files)
      → removed (lookup files d name) (place_of files d name) ≡ o → o ≡ None → unlinked files spot ≡ None
  unfolding unlinked
  unlinked-not true e o is none = rw e refl
  unlinked-not false e o is none = rw (e, is) none

  pub unlinked-missing : found_in naming.places name ≡ None → unlinked files spot ≡ None
  unlinked-missing e = unlinked-not _ refl _ refl
      (ap (λ l. removed l (place_of files d name)) (lookup-missing e) ∙ no-number _)

  module _ {f : Found} (found : IsFound naming.places name f) where
    pub lookup-found : lookup files d name ≡ Some f.number
    lookup-found = lookup-in _ d _ _ naming.here name ∙ ap (option_map (λ (f : Found). f.number)) found.is

    pub found-place : HasPlace files d f.place
    found-place = record {
      links = suc naming.links;
      places = naming.places;
      here = naming.here;
      within = slot-within _ _ found.entry found.here;
    }

    pub found-node : (node : Node) × (slot files f.number ≡ Some node)
    found-node = node-of _ (subst (λ n. IsSome (slot files n)) found.number
        (naming.numbers f.place found.entry found.here))

    removed-is : removed (lookup files d name) (place_of files d name)
        ≡ removed_node files d f.place f.number (slot files f.number)
    removed-is = ap (λ l. removed l (place_of files d name)) lookup-found
        ∙ ap (removed (Some f.number)) (place-of-is ∙ found.first)

    module _ {node : Node} (here : slot files f.number ≡ Some node) where
      refused-node : (b : Bool) → may_remove node ≡ b → removal node ≡ None
          → removed_node files d f.place f.number (Some node) ≡ None
      refused-node true e h = absurd (none-some _ (sym h ∙ ap (λ b. cond b (Some (is_directory node)) None) e))
      refused-node false e h = ap (λ b. cond b (Some (without_name files d f.place f.number node)) None) e

      taken-node : (goes b : Bool) → may_remove node ≡ b → removal node ≡ Some goes
          → removed_node files d f.place f.number (Some node) ≡ Some (dropped (erase files d f.place) f.number d goes)
      taken-node goes false e h = absurd (none-some goes (sym (ap (λ b. cond b (Some (is_directory node)) None) e) ∙ h))
      taken-node goes true e h =
          let is : is_directory node ≡ goes =
          same_Some _ goes (sym (ap (λ b. cond b (Some (is_directory node)) None) e) ∙ h) in
          ap (λ b. cond b (Some (without_name files d f.place f.number node)) None) e
          ∙ ap (λ b. Some (dropped (erase files d f.place) f.number d b)) is

      pub unlinked-full : removal node ≡ None → unlinked files spot ≡ None
      unlinked-full h = unlinked-not _ refl _ refl
          (removed-is ∙ ap (removed_node files d f.place f.number) here ∙ refused-node _ refl h)

      pub unlinked-done : (goes : Bool) → is_dot_name name ≡ false → removal node ≡ Some goes
          → unlinked files spot ≡ Some (dropped (erase files d f.place) f.number d goes)
      unfolding unlinked
      unlinked-done goes e h =
          rw e (removed-is ∙ ap (removed_node files d f.place f.number) here ∙ taken-node goes _ refl h)

-- a node that isn't taken away has names
pub stays-busy : (node : Node) → removal node ≡ None → may_remove node ≡ false
stays-busy node h = go (may_remove node) h where
  go : (b : Bool) → cond b (Some (is_directory node)) None ≡ None → b ≡ false
  go true q = absurd (none-some _ (sym q))
  go false q = refl

-- from the attributes of a node, and from its slots
module _ (node : Node) (s : InodeStat) (told : Tells s node) where
  pub removal-other : s.kind ≢ 1 → removal node ≡ Some false
  removal-other k = go node told where
    go : (node : Node) → Tells s node → removal node ≡ Some false
    go (Directory links places) told = absurd (k told.0)
    go _ told = refl

  pub removal-folder : {files : Files} {n : ℕ} → slot files n ≡ Some node → s.kind ≡ 1 → IsFolder files n
  removal-folder {files} {n} here k = go node told here where
    go : (node : Node) → Tells s node → slot files n ≡ Some node → IsFolder files n
    go (Directory links places) told here = record { links = links; places = places; here = here }
    go _ told here = absurd (let e = told.0 in omega arith)

-- from the slots of a directory
pub removal-directory : {files : Files} {n : ℕ} {node : Node} → slot files n ≡ Some node
    → {b : Bool} (f : IsFolder files n) → b ≡ is_bare f.places → cond b (Some true) None ≡ removal node
removal-directory {files} {n} {node} here f told = ap (λ b. cond b (Some true) None) told
    ∙ ap removal (same_Some _ node (sym f.here ∙ here))

-- ---- the nodes that are there stay

module _ (files : Files) (n : ℕ) (change : Node → Node) (m : ℕ) where
  pub stays-node : slot files m ≢ None → slot (change_node files n change) m ≢ None
  stays-node some = go (slot files n) refl where
    go : (o : Option Node) → slot files n ≡ o → slot (set files n (option_map change o)) m ≢ None
    go None e = λ h. some (sym (get_or-set_other _ n m None None (λ same. some (ap (slot files) same ∙ e))) ∙ h)
    go (Some node) e = slot-set (λ q. q ≢ None) _ n _ (slot-within _ n node e) m (λ same h. none-some _ (sym h))
        (λ away. some)

pub stays-erased : (files : Files) (d k m : ℕ) → slot files m ≢ None → slot (erase files d k) m ≢ None
unfolding erase
stays-erased files d k m some = stays-node _ d _ m some

pub stays-dropped : (files : Files) (n d : ℕ) (goes : Bool) (m : ℕ) → slot files m ≢ None
    → slot (dropped files n d goes) m ≢ None
stays-dropped files n d true m some = stays-node _ d fewer_links m (stays-node _ n fewer_links m some)
stays-dropped files n d false m some = stays-node _ n fewer_links m some

-- ---- a name is looked up in a node

pub IfNone-of : {X P : Type 0} (o : Option X) → P → IfNone o P
IfNone-of None h = h
IfNone-of (Some x) h = tt

-- ---- directories with links

-- d is a directory with links
pub record IsLiveAt (files : Files) (d : ℕ) : Type 0 where
  pub links : ℕ
  pub places : List (Option Entry)
  pub here : slot files d ≡ Some (Directory (suc links) places)

abbrev is_live : Node → Bool
is_live node = (kind_of node == 1) && nat_lt 0 (links_of node)

live-yes : (files : Files) (d : ℕ) (node : Node) → slot files d ≡ Some node → is_live node ≡ true → IsLiveAt files d
live-yes files d (Directory (suc links) places) here h = record { links = links; places = places; here = here }
live-yes files d _ here h = absurd (false≢true h)

live-no : (node : Node) → is_live node ≡ false → live_places (Some node) ≡ None
live-no (Directory (suc links) places) h = absurd (false≢true (sym h ∙ lt-ltb 0 (suc links) (omega arith)))
live-no _ h = refl

-- ---- a name in a directory

lookup-dead : (files : Files) (d : ℕ) (name : List ℕ) → live_places (slot files d) ≡ None → lookup files d name ≡ None
unfolding lookup
lookup-dead files d name e =
    ap (option_and_then (λ ps. entry_number (option_and_then (slot ps) (position (has_name name) ps)))) e

-- ---- from the attributes of a node

module _ (files : Files) (d : ℕ) (used : IsSome (slot files d)) {s : InodeStat}
    (told : (x : Node) → slot files d ≡ Some x → Tells s x) where
  live-is : (node : Node) → slot files d ≡ Some node → is_live node ≡ ((s.kind == 1) && nat_lt 0 s.links)
  live-is node here = sym (ap (λ k. (k == 1) && nat_lt 0 s.links) (told node here).0
      ∙ ap (λ l. (kind_of node == 1) && nat_lt 0 l) (told node here).1)

  pub live-told : ((s.kind == 1) && nat_lt 0 s.links) ≡ true → IsLiveAt files d
  live-told h = let at = node-of _ used in live-yes _ d at.0 at.1 (live-is at.0 at.1 ∙ h)

  pub dead-told : ((s.kind == 1) && nat_lt 0 s.links) ≡ false → (name : List ℕ) → None ≡ lookup files d name
  dead-told h name = let at =
      node-of _ used in sym (lookup-dead _ d name (ap live_places at.1 ∙ live-no at.0 (live-is at.0 at.1 ∙ h)))

-- a directory with links is one
abbrev pub live-folder : {files : Files} {d : ℕ} → IsLiveAt files d → IsFolder files d
live-folder live = record { links = suc live.links; places = live.places; here = live.here }

-- the number that the search finds is that of the name
pub lookup-told : {files : Files} {d : ℕ} (live : IsLiveAt files d) (name : List ℕ) (o : Option Found)
    → o ≡ found_in live.places name → option_map (λ (f : Found). f.number) o ≡ lookup files d name
lookup-told {files} {d} live name o is = ap (option_map (λ (f : Found). f.number)) is
    ∙ sym (lookup-in _ d _ _ live.here name)
