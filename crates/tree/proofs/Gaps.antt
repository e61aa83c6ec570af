-- A new name, and the removal of one by its path: its slot, why it is refused, and which files it leaves.
use Rattle.tree.proofs.Common.{◌≡◌, ℕ, ◌≤◌, List, None, Option, Some, ap, sym, ◌∙◌, arith, suc, option_and_then}
use Rattle.tree.proofs.Common.{option_map, get_or-set_other, none-some, Store, TakesLowest, IsFree, free-number}
use Rattle.tree.proofs.Common.{entered, room_in, TakesNode, IsFileSystem}
use Rattle.layout.specs.declared.Kind.{Kind}
use Rattle.tree.proofs.Common.{blocks_of, Files, Node, Spot, blocks_for, enter, free_number, put, size_of, slot}
use Rattle.tree.proofs.Common.{Directory, Made, make_at, ◌+◌, Bool, refl, subst, cond, true, false, IsSome, is_some}
use Rattle.tree.proofs.Common.{nat_le, false≢true, leb-false, leb-true, same_Some, HasGap, HasRoom, IsFullAt}
use Rattle.tree.proofs.Common.{LacksBlocks, growth, IsFolder, IsDead, IsNoDirectory, above, is_directory, live_places}
use Rattle.tree.proofs.Common.{lookup, spot_of, ◌≢◌, TreeFault, DeadDir, NotDir, NotFound, LacksGap, LacksMaking}
use Rattle.tree.proofs.Common.{FileTree, inl, inr, numbers-used, KeepsTree, DotName, NotEmpty, let_go, LacksUnlinking}
use Rattle.tree.proofs.Common.{LacksSpot, IsNaming, LacksName, unlinked_in, unlinked, Stores, HasFiles, Entry}
use Rattle.tree.proofs.Stored.{fresh-stores, lowest-number, no-number}
use Rattle.tree.proofs.Storing.{kept-stores, blocks_of-set, held-again, taken_by}
use Rattle.tree.proofs.Places.{enter-full, enter-room}
use Rattle.tree.proofs.Naming.{live_at, no-spot, spot_at, spot-above, spot-none}
use Rattle.tree.proofs.Unlinked.{IsLiveAt, lookup-told}
use Rattle.tree.proofs.Common.{Found, found_in}
use Rattle.tree.specs.declared.TreeFault.TheVariants.{Inodes}
use Rattle.tree.specs.declared.TreeFault.TheVariants as fault

-- ---- the lowest free number is taken for a node without bytes

-- a node stays as it is while another is added
pub still-here : {files : Files} {n : ℕ} → IsFree files n → (node : Node) (k : ℕ) {x : Node} → slot files k ≡ Some x
    → slot (put files n node) k ≡ Some x
still-here {files} {n} number node k {x} here =
    get_or-set_other _ n k _ None (λ e. none-some x (sym number.free ∙ ap (slot files) (sym e) ∙ here)) ∙ here

-- ---- a node that is made

module _ (files : Files) (at : Spot) (node : ℕ → Node) where
  abbrev numbered : ℕ → Option Files → Option Made
  numbered n o = option_map (λ (new : Files). let made : Made = record { files = new; number = n } in made) o

  pub make-unnumbered : free_number files ≡ None → make_at files at node ≡ None
  unfolding make_at
  make-unnumbered none = ap (option_and_then (λ n. numbered n (enter (put files n (node n)) at n))) none

  module _ {links : ℕ} {places : List (Option Entry)}
      (here : slot files at.directory ≡ Some (Directory (suc links) places)) where
    pub make-full : {n : ℕ} → room_in places ≡ None → free_number files ≡ Some n → make_at files at node ≡ None
    unfolding make_at
    make-full {n} none is =
        ap (option_and_then (λ m. numbered m (enter (put files m (node m)) at m))) is
        ∙ ap (numbered n) (enter-full _ at n _ _ (still-here (free-number _ n is) _ _ here) none)

    pub make-done : {k n : ℕ} → room_in places ≡ Some k → free_number files ≡ Some n
        → make_at files at node ≡ Some
        (record {
          files = entered (put files n (node n)) at.directory k (record { name = at.name; number = n });
          number = n;
        })
    unfolding make_at
    make-done {k} {n} room is =
        ap (option_and_then (λ m. numbered m (enter (put files m (node m)) at m))) is
        ∙ ap (numbered n) (enter-room _ at n _ _ (still-here (free-number _ n is) _ _ here) k room)

-- ---- a node without bytes

-- the blocks that are free stay free
pub fresh-blocks : (files : Files) (n : ℕ) (node : Node) → IsFree files n → size_of node ≡ 0
    → blocks_of (put files n node) ≡ blocks_of files
fresh-blocks files n node number empty =
    let b = blocks_of-set files n (Some node) number.within in
    let none : taken_by (slot files n) ≡ 0 = ap taken_by number.free in
    let small : taken_by (Some node) ≡ 0 = ap blocks_for empty in
    omega arith

-- ---- what the volume's call says

pub taken-told : {D : Type 0} {v v' : Store D} (seen new : FileTree) (kind : Kind) → Stores v seen.files
    → (o : Option ℕ) → TakesLowest v v' kind 1 o → v'.geometry ≡ v.geometry
    → (((files : Files) → Stores v' files → HasFiles seen new files) → TakesNode seen new kind o) × IsFileSystem v'
taken-told seen new kind holds (Some n) takes same =
    let is = lowest-number holds n takes.0 in
    let now = fresh-stores holds same kind n (free-number seen.files n is).within takes.1 in
    ((λ turn. (is, turn _ now)), held-again now)
taken-told seen new kind holds None all same = let now =
    kept-stores same all.0 holds in ((λ turn. (no-number holds all.1, turn _ now)), held-again now)

-- ---- the directory of a spot

at-node : (files : Files) (at : Spot) (name : List ℕ) (k : ℕ) (o : Option Node) → slot files k ≡ o
    → cond (is_some (live_places o)) (Some (spot_at k name)) None ≡ Some at → IsLiveAt files at.directory
at-node files at name k (Some (Directory (suc links) places)) here h =
    subst (λ (s : Spot). IsLiveAt files s.directory) (same_Some _ at h)
    (record { links = links; places = places; here = here })
at-node files at name k _ here h = absurd (none-some at h)

pub spot-directory : (files : Files) (d : ℕ) (path : List ℕ) (at : Spot)
    → spot_of files d path ≡ Some at → IsLiveAt files at.directory
spot-directory files d path at h = go (above files d path) (sym (spot-above _ d path) ∙ h) where
  go : (o : Option (ℕ × List ℕ)) → live_at files o ≡ Some at → IsLiveAt files at.directory
  go None q = absurd (none-some at q)
  go (Some two) q = at-node _ at two.1 two.0 _ refl q

-- ---- a gap: the slot of a new entry

some-number : (o : Option Found) → is_some (option_map (λ (f : Found). f.number) o) ≡ is_some o
some-number None = refl
some-number (Some found) = refl

-- from what was read of the directory of a spot
module _ (files : Files) (d : ℕ) (path : List ℕ) {at : Spot} (spot : spot_of files d path ≡ Some at) where
  abbrev live : IsLiveAt files at.directory
  live = spot-directory _ d path at spot

  abbrev pub gap-folder : IsFolder files at.directory
  gap-folder = record { links = suc live.links; places = live.places; here = live.here }

  pub gap-named : IsSome (found_in live.places at.name) → IsSome (lookup files at.directory at.name)
  gap-named some = ap is_some (sym (lookup-told live at.name _ refl)) ∙ some-number _ ∙ some

  pub gap-unnamed : found_in live.places at.name ≡ None → lookup files at.directory at.name ≡ None
  gap-unnamed none = sym (lookup-told live at.name _ refl) ∙ ap (option_map (λ (f : Found). f.number)) none

  pub gap-full : room_in live.places ≡ None → IsFullAt files d path
  gap-full none = record {
    at = at;
    spot = spot;
    none = ap (λ o. option_and_then room_in (live_places o)) live.here
        ∙ none;
  }

  module _ {k : ℕ} (room : room_in live.places ≡ Some k) where
    abbrev pub gap-room : HasRoom files at.directory k
    gap-room = record { links = suc live.links; places = live.places; here = live.here; room = room }

    module _ (limit more : ℕ) {enough : Bool}
        (told : enough ≡ nat_le (blocks_of files + (growth live.places k + more)) limit) where
      pub gap-lacks : enough ≡ false → LacksBlocks limit files d path more
      gap-lacks fewer =
          let few = leb-false _ _ (sym told ∙ fewer) in
          record {
            at = at;
            spot = spot;
            places = live.places;
            here = ap live_places live.here;
            place = k;
            room = room;
            few = omega arith;
          }

      pub gap-has : enough ≡ true → lookup files at.directory at.name ≡ None → HasGap limit files d path more at k
      gap-has plenty free = record {
        spot = spot;
        free = free;
        links = live.links;
        places = live.places;
        here = live.here;
        room = room;
        fits = leb-true _ _ (sym told ∙ plenty);
      }

pub none-more : 0 ≤ 1
none-more = omega arith

-- ---- no spot

other-dead : (node : Node) → is_directory node ≡ false → live_places (Some node) ≡ None
other-dead (Directory links places) h = absurd (false≢true (sym h))
other-dead _ h = refl

pub lacks-other : (files : Files) (d : ℕ) (path : List ℕ) → IsNoDirectory files d path → spot_of files d path ≡ None
lacks-other files d path other = no-spot _ d path other.above (ap live_places other.here ∙ other-dead _ other.other)

pub lacks-dead : (files : Files) (d : ℕ) (path : List ℕ) → IsDead files d path → spot_of files d path ≡ None
lacks-dead files d path dead = no-spot _ d path dead.above (ap live_places dead.here)

-- a name that has no room makes no node
pub gap-making : (limit : ℕ) (files : Files) (d : ℕ) (path : List ℕ) (more : ℕ) (told : TreeFault)
    → LacksGap limit files d path more told → LacksMaking limit files d path more told
gap-making limit files d path more Inodes why = absurd why
gap-making limit files d path more _ why = why

-- ---- a name goes, by its path: why it is refused, and what the disk holds

-- the definitions make nothing, for this reason
abbrev Refuses : List ℕ → Files → ℕ → List ℕ → TreeFault → Type 0
Refuses holds files d path told = (unlinked_in holds files d path ≡ None) × LacksUnlinking files d path told

module _ (holds : List ℕ) (files : Files) (d : ℕ) (path : List ℕ) where
  -- the files without a name, and without the node of this number where nothing keeps it
  abbrev gone : Option ℕ → Option Files → Option Files
  gone number o = option_and_then (λ n. option_map (λ less. let_go holds less n) o) number

  unlinked-nowhere : spot_of files d path ≡ None → unlinked_in holds files d path ≡ None
  unfolding unlinked_in
  unlinked-nowhere e = ap (option_and_then (λ at. gone (lookup files at.directory at.name) (unlinked files at))) e

  pub without-spot : (told : TreeFault) → told ≢ fault.Device → LacksSpot files d path told
      → Refuses holds files d path told
  without-spot NotFound known why = (unlinked-nowhere (spot-none _ d path why), inl why)
  without-spot NotDir known why = (unlinked-nowhere (lacks-other _ d path why), why)
  without-spot DeadDir known why = (unlinked-nowhere (lacks-dead _ d path why), why)
  without-spot fault.Device known why = absurd (known refl)
  without-spot _ known why = absurd why

  module _ (at : Spot) (spot : spot_of files d path ≡ Some at) where
    in-is : unlinked_in holds files d path ≡ gone (lookup files at.directory at.name) (unlinked files at)
    unfolding unlinked_in
    in-is = ap (option_and_then (λ at. gone (lookup files at.directory at.name) (unlinked files at))) spot

    kept-name : unlinked files at ≡ None → unlinked_in holds files d path ≡ None
    kept-name e = in-is ∙ ap (gone (lookup files at.directory at.name)) e ∙ go (lookup files at.directory at.name) where
      go : (o : Option ℕ) → gone o None ≡ None
      go None = refl
      go (Some n) = refl

    pub gone-name : (n : ℕ) (less : Files) → lookup files at.directory at.name ≡ Some n → unlinked files at ≡ Some less
        → unlinked_in holds files d path ≡ Some (let_go holds less n)
    gone-name n less named made =
        in-is ∙ ap (λ o. gone o (unlinked files at)) named ∙ ap (gone (Some n)) made

  -- the directory of the spot names nodes
  pub spot-naming : KeepsTree files → (at : Spot) → spot_of files d path ≡ Some at → IsNaming files at.directory
  spot-naming keeps at spot =
      let live = spot-directory _ d path at spot in
      record {
        links = live.links;
        places = live.places;
        here = live.here;
        numbers = numbers-used keeps _ _ _ live.here;
      }

  -- why no name goes at the spot of a path
  pub refused-at : (at : Spot) → spot_of files d path ≡ Some at → (told : TreeFault) → told ≢ fault.Device
      → unlinked files at ≡ None → LacksName files at told → Refuses holds files d path told
  refused-at at spot NotFound known none why = (kept-name at spot none, inr (record { at = at; spot = spot; is = why }))
  refused-at at spot NotEmpty known none why = (kept-name at spot none, record { at = at; spot = spot; is = why })
  refused-at at spot DotName known none why = (kept-name at spot none, record { at = at; spot = spot; is = why })
  refused-at at spot fault.Device known none why = absurd (known refl)
  refused-at at spot _ known none why = absurd why
