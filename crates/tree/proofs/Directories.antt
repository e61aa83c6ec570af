-- A new directory: why it is refused, and what the disk holds.
use Rattle.tree.proofs.Common.{◌+◌, ◌≡◌, ℕ, Some, ap, sym, refl, ◌∙◌, arith, blocks_of, more_links, Files, Node}
use Rattle.tree.proofs.Common.{links_of, change_node, put, slot, ◌≢◌, ◌<◌, ◌≤◌, List, None, Option, cond, subst, suc}
use Rattle.tree.proofs.Common.{inr, All, is_none, option_and_then, ◌&&◌, le-ltb, lt-ltb, get_or-set_other, none-some}
use Rattle.tree.proofs.Common.{same_Some, TreeFault, Overflows, HasGap, entered, LacksGap, Spot, lookup, most_links}
use Rattle.tree.proofs.Common.{spot_of, Directory, has_room_for_link, is_free_name, FileTree, [], option_map, and_from}
use Rattle.tree.proofs.Common.{and_right, cond-false, cond-true, get_or-set_same, set-set, folder_in, growth, placed}
use Rattle.tree.proofs.Common.{room_in, LacksFolder, LacksMaking, free_number, Made, made_below, made_directory}
use Rattle.tree.proofs.Common.{make_at, new_directory, IsFree, free-number, ◌∷◌, inl, cases_eq, HasRoom, IsPlain, dot}
use Rattle.tree.proofs.Common.{dot_dot, Entry}
use Rattle.tree.proofs.Storing.{blocks_of-set, slot-within, taken_by}
use Rattle.tree.specs.declared.TreeFault.TheVariants as fault
use Rattle.tree.proofs.NewFiles.{AsksEntry, entry-asked, Fills, Makes, overflows, tested, comes-some, make-fills}
use Rattle.tree.proofs.NewFiles.{places-of, plain-name}
use Rattle.tree.proofs.Gaps.{gap-making, spot-directory, fresh-blocks, make-done, make-unnumbered, still-here}
use Rattle.tree.proofs.Places.{blocks_of-entered, none-not, cond-none, entered-is}
use Rattle.tree.proofs.Following.{IsNow}
use Rattle.tree.proofs.Links.{more-blocks}

-- ---- a new directory: why it is refused, and what the disk holds

-- ---- its entries

abbrev pub own : ℕ → Entry
own n = record { name = dot; number = n }

abbrev above : ℕ → Entry
above n = record { name = dot_dot; number = n }

pub dot-plain : (n : ℕ) → n < 65536 → IsPlain (own n)
dot-plain = plain-name dot refl

pub dots-plain : (n : ℕ) → n < 65536 → IsPlain (above n)
dots-plain = plain-name dot_dot refl

-- ---- the slots of its entries

room-first : room_in [] ≡ Some 0
unfolding room_in
room-first = refl

room-second : (e : Entry) → room_in (Some e ∷ []) ≡ Some 1
unfolding room_in
room-second e = refl

module _ (files : Files) (n : ℕ) (here : slot files n ≡ Some (Directory 1 [])) where
  pub first-room : HasRoom files n 0
  first-room = record { links = 1; places = []; here = here; room = room-first }

  -- the first takes a block
  pub first-fits : {limit : ℕ} → blocks_of files + 1 ≤ limit → (r : HasRoom files n 0)
      → blocks_of files + growth r.places 0 ≤ limit
  first-fits some r =
      let same : r.places ≡ [] = ap places-of (same_Some _ _ (sym r.here ∙ here)) in
      let is : growth r.places 0 ≡ 1 = ap (λ ps. growth ps 0) same in
      omega arith

  -- the files with the first
  abbrev with-first : Files
  with-first = entered files n 0 (own n)

  first-is : with-first ≡ put files n (Directory 1 (Some (own n) ∷ []))
  first-is = entered-is _ n 1 [] here 0 (own n)

  first-here : slot with-first n ≡ Some (Directory 1 (Some (own n) ∷ []))
  first-here = ap (λ (fs : Files). slot fs n) first-is ∙ get_or-set_same _ n _ None (slot-within _ n _ here)

  pub second-room : HasRoom with-first n 1
  second-room = record { links = 1; places = Some (own n) ∷ []; here = first-here; room = room-second _ }

  pub second-fits : {limit : ℕ} → blocks_of files + 1 ≤ limit → (r : HasRoom with-first n 1)
      → blocks_of with-first + growth r.places 1 ≤ limit
  second-fits some r =
      let same : r.places ≡ Some (own n) ∷ [] = ap places-of (same_Some _ _ (sym r.here ∙ first-here)) in
      let is : growth r.places 1 ≡ 0 = ap (λ ps. growth ps 1) same in
      let one : growth [] 0 ≡ 1 = refl in
      let blocks = blocks_of-entered _ n 1 [] here 0 (own n) in
      omega arith

  pub second-is : (parent : ℕ) → entered with-first n 1 (above parent) ≡ put files n (new_directory parent n)
  second-is parent =
      entered-is with-first n 1 _ first-here 1 _
      ∙ ap (λ (fs : Files). put fs n (new_directory parent n)) first-is
      ∙ set-set _ n _ _

  -- all that were there are there still
  pub first-stays : (m : ℕ) → slot files m ≢ None → slot with-first m ≢ None
  first-stays m some none = elim (cases_eq m n) [
    | inl same ↦ none-some _ (sym none ∙ ap (slot with-first) same ∙ first-here)
    | inr away ↦ some (sym (ap (λ (fs : Files). slot fs m) first-is ∙ get_or-set_other _ n m _ None away) ∙ none)
  ]

module _ (files : Files) (d : ℕ) (path : List ℕ) where
  folder-nowhere : spot_of files d path ≡ None → folder_in files d path ≡ None
  unfolding folder_in
  folder-nowhere e = ap (option_and_then (made_directory files)) e

  module _ (at : Spot) (spot : spot_of files d path ≡ Some at) where
    abbrev come : Option Made
    come = make_at files at (new_directory at.directory)

    abbrev with-link : Option Made → Option Files
    with-link o = option_map (λ (made : Made). change_node made.files at.directory more_links) o

    folder-at : (parent : Node) → slot files at.directory ≡ Some parent
        → folder_in files d path ≡ cond (is_free_name files at && has_room_for_link parent) (with-link come) None
    unfolding folder_in made_directory
    folder-at parent here = ap (option_and_then (made_directory files)) spot ∙ ap (made_below files at) here

    pub folder-many : (parent : Node) → slot files at.directory ≡ Some parent → most_links ≤ links_of parent
        → folder_in files d path ≡ None
    folder-many parent here many =
        folder-at parent here
        ∙ cond-false _ (with-link come) None
        (and_right _ _ (le-ltb _ most_links many))

    pub folder-unnumbered : (parent : Node) → slot files at.directory ≡ Some parent → free_number files ≡ None
        → folder_in files d path ≡ None
    folder-unnumbered parent here none = folder-at parent here
        ∙ cond-none _ (ap with-link (make-unnumbered _ at _ none))

    module _ {links : ℕ} {places : List (Option Entry)}
        (here : slot files at.directory ≡ Some (Directory (suc links) places)) {k : ℕ} (room : room_in places ≡ Some k)
        {n : ℕ} (is : free_number files ≡ Some n) where
      abbrev e : Entry
      e = record { name = at.name; number = n }

      abbrev second : Files
      second = put files n (new_directory at.directory n)

      abbrev third : Files
      third = entered second at.directory k e

      number : IsFree files n
      number = free-number _ n is

      second-here : slot second at.directory ≡ Some (Directory (suc links) places)
      second-here = still-here number _ _ here

      third-here : slot third at.directory ≡ Some (Directory (suc links) (placed places k e))
      third-here =
          ap (λ (fs : Files). slot fs at.directory) (entered-is second _ _ _ second-here k e)
          ∙ get_or-set_same second _ _ None (slot-within second _ _ second-here)

      second-blocks : blocks_of second ≡ blocks_of files + 1
      second-blocks =
          let b = blocks_of-set files n (Some (new_directory at.directory n)) number.within in
          let none : taken_by (slot files n) ≡ 0 = ap taken_by number.free in
          let one : taken_by (Some (new_directory at.directory n)) ≡ 1 = refl in
          omega arith

      folder-blocks : blocks_of (change_node third at.directory more_links) ≡ blocks_of files + 1 + growth places k
      folder-blocks =
          more-blocks third _ _ third-here
          ∙ blocks_of-entered second _ _ _ second-here k e ∙ ap (λ b. b + growth places k) second-blocks

      folder-done : suc links < most_links → lookup files at.directory at.name ≡ None
          → folder_in files d path ≡ Some (change_node third at.directory more_links)
      folder-done few free =
          folder-at _ here
          ∙ cond-true _ (with-link come) None
          (and_from _ _ (ap is_none free) (lt-ltb _ most_links few))
          ∙ ap with-link (make-done _ at _ here room is)

  folder-makes : Makes files d path 1 (folder_in files d path)
  folder-makes = record {
    nowhere = folder-nowhere;
    there = λ at spot some.
        let live = spot-directory _ d path at spot in
        folder-at at spot _ live.here
        ∙ ap (λ b. cond (b && has_room_for_link (Directory (suc live.links) live.places))
        (with-link at spot (come at spot)) None) (none-not _ some);
    fills = λ at spot.
        let live = spot-directory _ d path at spot in
        let parent = Directory (suc live.links) live.places in
        subst (Fills files at 1) (sym (folder-at at spot parent live.here))
        (tested (λ b. cond b (with-link at spot (come at spot)) None) refl
        (make-fills _ at _ (λ (made : Made). change_node made.files at.directory more_links) (λ n is live k room.
        let blocks = folder-blocks at spot live.here room is in omega arith))
        (is_free_name files at && has_room_for_link parent));
  }

  -- a name that has no room makes no directory
  pub weaker-folder : (limit : ℕ) (told : TreeFault) → told ≢ fault.Device → LacksGap limit files d path 1 told
      → Overflows limit (folder_in files d path) × LacksFolder limit files d path told
  weaker-folder limit told known why =
      (overflows folder-makes _ told known why, making-folder told (gap-making _ _ d path 1 told why)) where
        making-folder : (told : TreeFault) → LacksMaking limit files d path 1 told → LacksFolder limit files d path told
        making-folder fault.Links why = absurd why
        making-folder _ why = why

-- ---- the steps

module _ (old : FileTree) {d : ℕ} {path : List ℕ} {at : Spot} {k : ℕ}
    (gap : HasGap old.block_limit old.files d path 1 at k) {n : ℕ} (is : free_number old.files ≡ Some n) where
  abbrev first : Files
  first = put old.files n (Directory 1 [])

  abbrev next : Files
  next = put old.files n (new_directory at.directory n)

  abbrev name : Entry
  name = record { name = at.name; number = n }

  abbrev last : Files
  last = entered next at.directory k name

  free-n : IsFree old.files n
  free-n = free-number _ n is

  -- the new directory, before it has entries
  pub first-bare : slot first n ≡ Some (Directory 1 [])
  first-bare = get_or-set_same _ n _ None free-n.within

  pub first-above : slot first at.directory ≢ None
  first-above none = none-some _ (sym none ∙ still-here free-n _ _ gap.here)

  pub first-block : blocks_of first + 1 ≤ old.block_limit
  first-block =
      let blocks = fresh-blocks old.files n (Directory 1 []) free-n refl in
      let fits = gap.fits in
      omega arith

  -- and with them
  pub next-is : put first n (new_directory at.directory n) ≡ next
  next-is = set-set _ n _ _

  pub name-asked : {mid : FileTree} → IsNow old mid next → All (λ b. b ≢ 0) path → AsksEntry mid at k n
  name-asked now =
      entry-asked now gap (second-blocks _ d path at gap.spot gap.here gap.room is)
      (second-here _ d path at gap.spot gap.here gap.room is) n
      (comes-some _ n _ free-n.within)

  -- the directory above gets a link
  module _ (few : suc gap.links < most_links) where
    pub above-asked : (node : Node) × (slot last at.directory ≡ Some node) × (links_of node < 65535)
    above-asked = (
      Directory (suc gap.links) (placed gap.places k name),
      third-here _ d path at gap.spot gap.here gap.room is,
      omega arith,
    )

    pub folder-is : folder_in old.files d path ≡ Some (change_node last at.directory more_links)
    folder-is = folder-done _ d path at gap.spot gap.here gap.room is few gap.free
