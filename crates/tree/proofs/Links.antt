-- Another name: why it is refused, and what the disk holds.
use Rattle.tree.proofs.Common.{◌+◌, ◌≡◌, ℕ, Some, ap, sym, refl, ◌∙◌, arith, blocks_of, more_links, Files, Node}
use Rattle.tree.proofs.Common.{links_of, blocks_for, change_node, put, size_of, slot, with_links, File, ◌≢◌, InodeStat}
use Rattle.tree.proofs.Common.{emptied-is, Tells, IsFile, emptied, ◌<◌, ◌≤◌, Bool, List, None, Option, cond, subst}
use Rattle.tree.proofs.Common.{true, false, suc, not, inr, All, IsSome, is_none, option_and_then, ◌&&◌, eq-eqb}
use Rattle.tree.proofs.Common.{false≢true, le-ltb, lt-ltb, ne_eqb, get_or-set_other, none-some, same_Some, TreeFault}
use Rattle.tree.proofs.Common.{NotFound, Overflows, HasGap, Reaches, entered, linked_in, LacksGap, LacksLinking, Spot}
use Rattle.tree.proofs.Common.{enter, find, is_directory, most_links, spot_of, Directory, has_room_for_link}
use Rattle.tree.proofs.Common.{is_free_name, linked, linked_node, find-used, KeepsTree, FileTree, Entry}
use Rattle.tree.proofs.Storing.{blocks_of-set, change-is, slot-within, taken_by, node-of}
use Rattle.tree.specs.declared.TreeFault.TheVariants as fault
use Rattle.tree.proofs.NewFiles.{AsksEntry, entry-asked, Fills, Makes, overflow-none, overflows, tested}
use Rattle.tree.proofs.Places.{blocks_of-entered, enter-full, enter-room, none-not}
use Rattle.tree.proofs.Following.{IsNow}
use Rattle.tree.proofs.Unlinked.{stays-node}

-- ---- a node gets another number of links

pub links-size : (node : Node) (k : ℕ) → size_of (with_links node k) ≡ size_of node
links-size (File links bytes) k = refl
links-size _ k = refl

module _ (files : Files) (n : ℕ) (node : Node) (here : slot files n ≡ Some node) where
  -- a change that sets the links to k
  pub relinked : (k : ℕ) (change : Node → Node) → with_links node k ≡ change node
      → change_node files n (λ node. with_links node k) ≡ change_node files n change
  relinked k change e = change-is _ n (λ node. with_links node k) node here ∙ ap (put files n) e
      ∙ sym (change-is _ n change node here)

  -- one more link takes no block
  pub more-blocks : blocks_of (change_node files n more_links) ≡ blocks_of files
  more-blocks =
      let next = with_links node (links_of node + 1) in
      let b = blocks_of-set files n (Some next) (slot-within files n node here) in
      let was : taken_by (slot files n) ≡ taken_by (Some node) = ap taken_by here in
      let same : taken_by (Some next) ≡ taken_by (Some node) = ap blocks_for (links-size node (links_of node + 1)) in
      let is = ap blocks_of (change-is files n more_links node here) in
      omega arith

-- ---- a file loses its bytes

module _ (files : Files) (n : ℕ) (node : Node) (here : slot files n ≡ Some node) (s : InodeStat) (told : Tells s node)
  where
    pub emptied-other : s.kind ≢ 2 → files ≡ change_node files n emptied
    emptied-other other = go node here told where
      go : (node : Node) → slot files n ≡ Some node → Tells s node → files ≡ change_node files n emptied
      go (File links bytes) here told = absurd (other told.0)
      go node here told = sym (emptied-is _ n node here refl)

    pub emptied-file : s.kind ≡ 2 → IsFile files n
    emptied-file two = go node here told where
      go : (node : Node) → slot files n ≡ Some node → Tells s node → IsFile files n
      go (File links bytes) here told = record { links = links; bytes = bytes; here = here }
      go node here told = let e = told.0 in absurd (omega arith)

module _ (files : Files) (d : ℕ) (old new : List ℕ) where
  pub linked-nothing : find files d old ≡ None → linked_in files d old new ≡ None
  unfolding linked_in
  linked-nothing e = ap (option_and_then (λ n. option_and_then (λ at. linked files at n) (spot_of files d new))) e

  module _ (n : ℕ) (node : Node) (found : find files d old ≡ Some n) (here : slot files n ≡ Some node) where
    -- the node has one more link, and an entry where a test passes
    abbrev counted : Files
    counted = change_node files n more_links

    abbrev named_if : Bool → Spot → Option Files
    named_if test at = cond test (enter counted at n) None

    linked-is : linked_in files d old new
        ≡ option_and_then (λ at. linked_node files at n (Some node)) (spot_of files d new)
    unfolding linked_in linked
    linked-is =
        ap (option_and_then (λ m. option_and_then (λ at. linked_node files at m (slot files m)) (spot_of files d new)))
        found
        ∙ ap (λ o. option_and_then (λ at. linked_node files at n o) (spot_of files d new)) here

    never : ((at : Spot) → linked_node files at n (Some node) ≡ None) → linked_in files d old new ≡ None
    never h = linked-is ∙ go (spot_of files d new) where
      go : (o : Option Spot) → option_and_then (λ at. linked_node files at n (Some node)) o ≡ None
      go None = refl
      go (Some at) = h at

    linked-directory : is_directory node ≡ true → linked_in files d old new ≡ None
    linked-directory e = never
        (λ at. ap (λ b. named_if (not b && has_room_for_link node && is_free_name files at) at) e)

    module _ (other : is_directory node ≡ false) where
      linked-tests : (at : Spot) (few : Bool) → has_room_for_link node ≡ few
          → linked_node files at n (Some node) ≡ named_if (true && few && is_free_name files at) at
      linked-tests at few e =
          ap (λ b. named_if (not b && has_room_for_link node && is_free_name files at) at) other
          ∙ ap (λ b. named_if (true && b && is_free_name files at) at) e

      linked-many : most_links ≤ links_of node → linked_in files d old new ≡ None
      linked-many many = never (λ at. linked-tests at false (le-ltb _ most_links many))

      more : counted ≡ put files n (with_links node (links_of node + 1))
      more = change-is _ n more_links node here

      -- the directory stays as it is
      still-there : (k links : ℕ) (places : List (Option Entry)) → slot files k ≡ Some (Directory links places)
          → slot counted k ≡ Some (Directory links places)
      still-there k links places at =
          ap (λ (fs : Files). slot fs k) more
          ∙ get_or-set_other _ n k _ None
          (λ e. false≢true (sym other
          ∙ ap is_directory (same_Some node _ (sym here ∙ ap (slot files) (sym e) ∙ at)))) ∙ at

      module _ (few : has_room_for_link node ≡ true) where
        linked-at : {at : Spot} → spot_of files d new ≡ Some at → linked_in files d old new
            ≡ named_if (is_free_name files at) at
        linked-at {at} spot = linked-is ∙ ap (option_and_then (λ at. linked_node files at n (Some node))) spot
            ∙ linked-tests at true few

        linked-done : {limit more k : ℕ} {at : Spot} → HasGap limit files d new more at k
            → linked_in files d old new ≡ Some (entered counted at.directory k (record { name = at.name; number = n }))
        linked-done {k = k} {at = at} gap =
            linked-at gap.spot ∙ ap (λ o. named_if (is_none o) at) gap.free
            ∙ enter-room counted at n _ _ (still-there _ _ _ gap.here) k gap.room

        -- the name fills its directory
        named : (at : Spot) → Fills files at 0 (enter counted at n)
        named at = record {
          full = λ live none. enter-full counted
              at n live.links _ (still-there at.directory (suc live.links) _ live.here) none;
          grows = λ live k room fs is.
              let stands = still-there _ _ _ live.here in
              let count = ap blocks_of (same_Some _ fs (sym (enter-room counted at n live.links _ stands k room) ∙ is))
              in
              let entry = blocks_of-entered counted at.directory (suc live.links) _ stands k
              (record { name = at.name; number = n }) in
              let same = more-blocks files n node here in
              omega arith;
        }

        linked-makes : Makes files d new 0 (linked_in files d old new)
        linked-makes = record {
          nowhere = λ e. linked-is ∙ ap (option_and_then (λ at. linked_node files at n (Some node))) e;
          there = λ at spot some. linked-at spot ∙ ap (λ b. named_if b at) (none-not _ some);
          fills = λ at spot. subst (Fills files at 0) (sym (linked-at spot))
              (tested (λ b. named_if b at) refl (named at) (is_free_name files at));
        }

        weaker-link : (limit : ℕ) (told : TreeFault) → told ≢ fault.Device → LacksGap limit files d new 0 told
            → Overflows limit (linked_in files d old new) × LacksLinking limit files d old new told
        weaker-link limit told known why = (overflows linked-makes limit told known why, gap-linking told why) where
          gap-linking : (told : TreeFault) → LacksGap limit files d new 0 told → LacksLinking limit files d old new told
          gap-linking NotFound why = inr why
          gap-linking fault.IsDir why = absurd why
          gap-linking fault.Links why = absurd why
          gap-linking _ why = why

-- ---- the node that the old path reaches, as `stat` reports it

pub record IsSeen (files : Files) (d : ℕ) (path : List ℕ) (n : ℕ) (s : InodeStat) : Type 0 where
  pub node : Node
  pub found : find files d path ≡ Some n
  pub here : slot files n ≡ Some node
  pub told : Tells s node

module _ {files : Files} (keeps : KeepsTree files) (d : ℕ) (path : List ℕ) (used : IsSome (slot files d)) {n : ℕ}
    (found : find files d path ≡ Some n) where
  pub reached : (node : Node) × (slot files n ≡ Some node)
  reached = node-of _ (find-used keeps d path n used found)

  pub seen : {s : InodeStat} → ((node : Node) → slot files n ≡ Some node → Tells s node) → IsSeen files d path n s
  seen told = record { node = reached.0; found = found; here = reached.1; told = told reached.0 reached.1 }

module _ (old : FileTree) {d : ℕ} {path : List ℕ} {n : ℕ} {t : InodeStat} (s : IsSeen old.files d path n t)
    (new : List ℕ) where
  abbrev files : Files
  files = old.files

  abbrev limit : ℕ
  limit = old.block_limit

  pub seen-directory : t.kind ≡ 1
      → Overflows limit (linked_in files d path new) × Reaches files d path (λ node. is_directory node ≡ true)
  seen-directory e =
      let is = eq-eqb _ 1 (sym s.told.0 ∙ e) in (
        overflow-none _ (linked-directory _ d path new n _ s.found s.here is),
        record { number = n; node = s.node; found = s.found; here = s.here; is = is },
      )

  module _ (other : t.kind ≢ 1) where
    file : is_directory s.node ≡ false
    file = ne_eqb _ 1 (λ e. other (s.told.0 ∙ e))

    pub seen-many : 32767 ≤ t.links
        → Overflows limit (linked_in files d path new) × Reaches files d path (λ node. most_links ≤ links_of node)
    seen-many many =
        let is : most_links ≤ links_of s.node = let e = s.told.1 in omega arith in (
          overflow-none _ (linked-many _ d path new n _ s.found s.here file is),
          record { number = n; node = s.node; found = s.found; here = s.here; is = is },
        )

    module _ (few : t.links < 32767) where
      room : has_room_for_link s.node ≡ true
      room = let e = s.told.1 in lt-ltb (links_of s.node) most_links (omega arith)

      pub seen-weaker : (told : TreeFault) → told ≢ fault.Device → LacksGap limit files d new 0 told
          → Overflows limit (linked_in files d path new) × LacksLinking limit files d path new told
      seen-weaker told known why = weaker-link _ d path new n _ s.found s.here file room _ told known why

      pub link-asked : (node : Node) × (slot files n ≡ Some node) × (links_of node < 65535)
      link-asked = (s.node, s.here, (let e = s.told.1 in omega arith))

      -- there is a slot for the new name
      module _ {at : Spot} {k : ℕ} (gap : HasGap limit files d new 0 at k) where
        pub linked-asked : {mid : FileTree} → IsNow old mid (change_node files n more_links) → All (λ b. b ≢ 0) new
            → AsksEntry mid at k n
        linked-asked now =
            let blocks = more-blocks _ n _ s.here in
            entry-asked now gap (omega arith) (still-there _ d path new n _ s.found s.here file _ _ _ gap.here) n
            (stays-node _ n more_links n (λ none. none-some _ (sym none ∙ s.here)))

        pub linked-into : linked_in files d path new
            ≡ Some (entered (change_node files n more_links) at.directory k (record { name = at.name; number = n }))
        linked-into = linked-done _ d path new n _ s.found s.here file room gap
