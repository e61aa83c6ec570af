-- A new file or device: what would be made, why it is refused, and what the disk holds.
use Rattle.tree.proofs.Common.{set, ◌≡◌, ℕ, List, None, Option, Some, ap, sym, ◌∙◌, arith, suc, option_and_then}
use Rattle.tree.proofs.Common.{option_map, none-some, free-number, entered, room_in, blocks_of, Files, Node, Spot}
use Rattle.tree.proofs.Common.{free_number, put, size_of, slot, Directory, Made, make_at, ◌+◌, Bool, refl, subst, cond}
use Rattle.tree.proofs.Common.{true, false, IsSome, is_none, false≢true, leb-true, same_Some, Overflows, HasGap}
use Rattle.tree.proofs.Common.{HasRoom, LacksBlocks, growth, made_files, made_in, live_places, lookup, spot_of, made_at}
use Rattle.tree.proofs.Common.{◌≢◌, ◌<◌, [], ◌∷◌, length, not, All, list_all, and_parts, eq-eqb, All-cons, All-nil}
use Rattle.tree.proofs.Common.{get_or-set_same, is_part, is_plain, spot-parts, Leaf, TreeFault, DeadDir, Exists, Full}
use Rattle.tree.proofs.Common.{NotDir, NotFound, IsPlain, LacksGap, LacksMaking, leaf_node, FileTree, Entry}
use Rattle.tree.proofs.Places.{blocks_of-entered, cond-none, none-not}
use Rattle.tree.proofs.Unlinked.{IsLiveAt}
use Rattle.tree.proofs.Naming.{spot-none}
use Rattle.tree.specs.declared.TreeFault.TheVariants.{Blocks}
use Rattle.tree.proofs.Following.{IsNow}
use Rattle.tree.proofs.Ending.{at-now}
use Rattle.tree.proofs.Gaps.{fresh-blocks, gap-making, lacks-dead, lacks-other, make-done, make-full, make-unnumbered}
use Rattle.tree.proofs.Gaps.{spot-directory, still-here}
use Rattle.tree.specs.declared.making.Leaf.TheVariants as leaf
use Rattle.tree.specs.declared.TreeFault.TheVariants as fault
use Rattle.tree.specs.Calls.{HasBlocks}

-- ---- what would be made

pub overflow-none : (limit : ℕ) {made : Option Files} → made ≡ None → Overflows limit made
overflow-none limit e files h = absurd (none-some _ (sym e ∙ h))

-- an entry at a spot makes files that take its blocks and `more` blocks, and none where the directory is full
pub record Fills (files : Files) (at : Spot) (more : ℕ) (made : Option Files) : Type 0 where
  pub full : (live : IsLiveAt files at.directory) → room_in live.places ≡ None → made ≡ None
  pub grows : (live : IsLiveAt files at.directory) (k : ℕ) → room_in live.places ≡ Some k → (fs : Files)
      → made ≡ Some fs → blocks_of fs ≡ blocks_of files + growth live.places k + more

-- after a test that fails
pub tested : {files : Files} {at : Spot} {more : ℕ} (made : Bool → Option Files) → made false ≡ None
    → Fills files at more (made true) → (test : Bool) → Fills files at more (made test)
tested made none fills true = fills
tested made none fills false =
    record { full = λ live full. none; grows = λ live k room fs is. absurd (none-some fs (sym none ∙ is)) }

-- a new name makes such files, and none where there is no spot or the name is there
pub record Makes (files : Files) (d : ℕ) (path : List ℕ) (more : ℕ) (made : Option Files) : Type 0 where
  pub nowhere : spot_of files d path ≡ None → made ≡ None
  pub there : (at : Spot) → spot_of files d path ≡ Some at → IsSome (lookup files at.directory at.name) → made ≡ None
  pub fills : (at : Spot) → spot_of files d path ≡ Some at → Fills files at more made

module _ {files : Files} {d : ℕ} {path : List ℕ} {more : ℕ} {made : Option Files}
    (makes : Makes files d path more made) (limit : ℕ) where
  -- they take more blocks than there are
  too-many : LacksBlocks limit files d path more → Overflows limit made
  too-many lacks fs is =
      let live = spot-directory files d path lacks.at lacks.spot in
      let same : live.places ≡ lacks.places =
      same_Some live.places lacks.places (sym (ap live_places live.here) ∙ lacks.here) in
      let grown : growth live.places lacks.place ≡ growth lacks.places lacks.place =
      ap (λ ps. growth ps lacks.place) same in
      let few = lacks.few in
      let blocks = (makes.fills lacks.at lacks.spot).grows live lacks.place (ap room_in same ∙ lacks.room) fs is in
      omega arith

  -- a name that has no room makes none, or too many
  pub overflows : (told : TreeFault) → told ≢ fault.Device → LacksGap limit files d path more told
      → Overflows limit made
  overflows NotFound known why = overflow-none _ (makes.nowhere (spot-none _ d path why))
  overflows NotDir known why = overflow-none _ (makes.nowhere (lacks-other _ d path why))
  overflows DeadDir known why = overflow-none _ (makes.nowhere (lacks-dead _ d path why))
  overflows Exists known why = overflow-none _ (makes.there why.at why.spot why.named)
  overflows Full known why =
      let live = spot-directory _ d path _ why.spot in
      overflow-none _ ((makes.fills why.at why.spot).full live
      (sym (ap (λ o. option_and_then room_in (live_places o)) live.here) ∙ why.none))
  overflows Blocks known why = too-many why
  overflows fault.Device known why = absurd (known refl)
  overflows _ known why = absurd why

-- a node that is added with an entry fills so
pub make-fills : (files : Files) (at : Spot) (node : ℕ → Node) (after : Made → Files) {more : ℕ}
    → ((n : ℕ) → free_number files ≡ Some n → (live : IsLiveAt files at.directory) (k : ℕ)
    → room_in live.places ≡ Some k
    → blocks_of (after (record
    { files = entered (put files n (node n)) at.directory k (record { name = at.name; number = n }); number = n }))
    ≡ blocks_of files + growth live.places k + more)
    → Fills files at more (option_map after (make_at files at node))
make-fills files at node after {more} blocks = go (free_number files) refl where
  go : (o : Option ℕ) → free_number files ≡ o → Fills files at more (option_map after (make_at files at node))
  go None e = let none = ap (option_map after) (make-unnumbered _ at node e)
      in record { full = λ live full. none; grows = λ live k room fs is. absurd (none-some fs (sym none ∙ is)) }
  go (Some n) e = record {
    full = λ live full. ap (option_map after) (make-full _ at node live.here full e);
    grows = λ live k room fs is. ap blocks_of
        (sym (same_Some _ fs (sym (ap (option_map after) (make-done _ at node live.here room e)) ∙ is)))
        ∙ blocks n e live k room;
  }

-- ---- a new file or device

module _ (files : Files) (d : ℕ) (path : List ℕ) (node : Node) where
  made-nowhere : spot_of files d path ≡ None → made_in files d path node ≡ None
  unfolding made_in
  made-nowhere e = ap (option_and_then (λ at. made_at files at (λ n. node))) e

  module _ {at : Spot} (spot : spot_of files d path ≡ Some at) where
    made-is : made_in files d path node
        ≡ cond (is_none (lookup files at.directory at.name)) (make_at files at (λ n. node)) None
    unfolding made_in made_at
    made-is = ap (option_and_then (λ at. made_at files at (λ n. node))) spot

    pub made-unnumbered : free_number files ≡ None → made_in files d path node ≡ None
    made-unnumbered none = made-is ∙ cond-none _ (make-unnumbered _ at (λ n. node) none)

  pub made-done : {limit more k n : ℕ} {at : Spot} → HasGap limit files d path more at k → free_number files ≡ Some n
      → made_in files d path node
      ≡ Some (record {
        files = entered (put files n node) at.directory k (record { name = at.name; number = n });
        number = n;
      })
  made-done {at = at} gap is = made-is gap.spot
      ∙ ap (λ o. cond (is_none o) (make_at files at (λ n. node)) None) gap.free
      ∙ make-done _ at (λ n. node) gap.here gap.room is

  module _ (empty : size_of node ≡ 0) where
    made-blocks : (at : Spot) (n : ℕ) → free_number files ≡ Some n → (live : IsLiveAt files at.directory) (k : ℕ)
        → blocks_of (entered (put files n node) at.directory k (record { name = at.name; number = n }))
        ≡ blocks_of files + growth live.places k + 0
    made-blocks at n is live k =
        let number = free-number files n is in
        let entry = blocks_of-entered (put files n node) at.directory (suc live.links) live.places
        (still-here number node at.directory live.here) k (record { name = at.name; number = n }) in
        let none = fresh-blocks files n node number empty in
        omega arith

    made-makes : Makes files d path 0 (made_files (made_in files d path node))
    made-makes = record {
      nowhere = λ e. ap made_files (made-nowhere e);
      there = λ at spot some. ap made_files
          (made-is spot ∙ ap (λ b. cond b (make_at files at (λ n. node)) None) (none-not _ some));
      fills = λ at spot. subst (Fills files at 0) (sym (ap made_files (made-is spot)))
          (tested (λ b. made_files (cond b (make_at files at (λ n. node)) None)) refl
          (make-fills _ at (λ n. node) (λ (made : Made). made.files) (λ n is live k room. made-blocks at n is live k))
          (is_none (lookup files at.directory at.name)));
    }

    -- a name that has no room makes nothing
    pub weaker-gap : (limit : ℕ) (told : TreeFault) → told ≢ fault.Device → LacksGap limit files d path 0 told
        → Overflows limit (made_files (made_in files d path node)) × LacksMaking limit files d path 0 told
    weaker-gap limit told known why = (overflows made-makes limit told known why, gap-making _ files d path 0 told why)

-- ---- why a new file or device is refused, and what the disk holds

pub leaf-empty : (l : Leaf) → size_of (leaf_node l) ≡ 0
leaf-empty leaf.File = refl
leaf-empty (leaf.Device major minor) = refl

-- a node that is added is there
pub comes-some : (files : Files) (n : ℕ) (node : Node) → n < length files → slot (put files n node) n ≢ None
comes-some files n node within none = none-some node (sym none ∙ get_or-set_same _ n _ None within)

-- ---- an entry for a node that was added

plain-bytes : (w : List ℕ) → list_all is_plain w ≡ true → All (λ b. b ≢ 0) w
plain-bytes [] h = All-nil (λ b. b ≢ 0)
plain-bytes (b ∷ bs) h =
    let both = and_parts _ _ h in
    let zero = and_parts _ _ both.0 in
    All-cons (λ b. b ≢ 0) b bs (λ z. false≢true (ap not (sym (eq-eqb b 0 z)) ∙ zero.0)) (plain-bytes bs both.1)

pub plain-name : (name : List ℕ) → is_part name ≡ true → (n : ℕ) → n < 65536
    → IsPlain (record { name = name; number = n })
plain-name name h n high =
    let both = and_parts _ _ h in
    let sizes = and_parts _ _ both.0 in
    record { number = high; some = leb-true 1 _ sizes.0; most = leb-true _ 14 sizes.1; plain = plain-bytes name both.1 }

abbrev pub places-of : Node → List (Option Entry)
places-of (Directory links places) = places
places-of _ = []

-- what `put_entry` requires
pub record AsksEntry (t : FileTree) (at : Spot) (k n : ℕ) : Type 0 where
  pub plain : (m : ℕ) → m < 65536 → IsPlain (record { name = at.name; number = m })
  pub node : slot t.files n ≢ None
  pub room : HasRoom t.files at.directory k
  pub fits : HasBlocks t at.directory k

-- in files that changed elsewhere
pub entry-asked : {old mid : FileTree} {files next : Files} (now : IsNow old mid next) {d : ℕ} {path : List ℕ}
    {at : Spot} {k more : ℕ} (gap : HasGap old.block_limit files d path more at k)
    → blocks_of next ≡ blocks_of files + more → slot next at.directory ≡ Some (Directory (suc gap.links) gap.places)
    → (n : ℕ) → slot next n ≢ None → All (λ b. b ≢ 0) path → AsksEntry mid at k n
entry-asked {old} {mid} {files} {next} now {d} {path} {at} {k} gap blocks here n some plain =
    at-now now (λ t. AsksEntry t at k n) (record {
      plain = plain-name _ (spot-parts _ d path at plain gap.spot).name;
      node = some;
      room = record { links = suc gap.links; places = gap.places; here = here; room = gap.room };
      fits = λ r.
          let same : r.places ≡ gap.places = ap places-of (same_Some _ _ (sym r.here ∙ here)) in
          let grown : growth r.places k ≡ growth gap.places k = ap (λ ps. growth ps k) same in
          let fits = gap.fits in
          omega arith;
    })

-- the added node is this one
pub fresh-now : {old now : FileTree} (files : Files) (n : ℕ) {came : Option Node} {node : Node} → came ≡ Some node
    → IsNow old now (set files n came) → IsNow old now (put files n node)
fresh-now {old} {now} files n e = subst (λ x. IsNow old now (set files n x)) e

-- the entry of a file or device
pub made-asked : {old mid : FileTree} {files : Files} {d : ℕ} {path : List ℕ} (node : Node) → size_of node ≡ 0
    → {at : Spot} {k n : ℕ} (gap : HasGap old.block_limit files d path 0 at k) → free_number files ≡ Some n
    → IsNow old mid (put files n node)
    → All (λ b. b ≢ 0) path → AsksEntry mid at k n
made-asked {files = files} node empty {at} {n = n} gap is now =
    let number = free-number _ n is in
    let blocks = fresh-blocks _ n node number empty in
    entry-asked now gap (omega arith) (still-here number node _ gap.here) n (comes-some _ n node number.within)
