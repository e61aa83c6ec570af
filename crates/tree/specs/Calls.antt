-- What calls on the nodes of a file system return, and what they leave.
use Rattle.std.specs.Borrow.{Bor}
use Rattle.std.specs.Prelude.{Bool, IsSome, List, None, Option, Result, Some, [], drop, flat_map, length, min, nat_le}
use Rattle.std.specs.Prelude.{option_map, replicate, ℕ, ◌*◌, ◌++◌, ◌+◌, ◌-◌, ◌≡◌, ◌≤◌}
use Rattle.blockdev.specs.Splice.{part}
use Rattle.tree.specs.Answers.{Overflows}
use Rattle.tree.specs.declared.entering.Gap.{Gap}
use Rattle.tree.specs.declared.place.Found.{Found}
use Rattle.tree.specs.declared.place.Room.{Room}
use Rattle.tree.specs.declared.place.Room.TheVariants.{At, Full, Named}
use Rattle.tree.specs.declared.place.Sought.{Sought}
use Rattle.tree.specs.declared.TreeFault.{TreeFault}
use Rattle.tree.specs.Entering.{HasGap, HasRoom, entered, folder_in, growth, linked_in, made_files, made_in, room_in}
use Rattle.tree.specs.Holding.{let_go, unheld, without_hold}
use Rattle.tree.specs.Lacking.{LacksFolder, LacksGap, LacksLinking, LacksMaking, LacksUnlinking}
use Rattle.tree.specs.Names.{found_in}
use Rattle.tree.specs.Paths.{LacksSpot, above}
use Rattle.tree.specs.Scanning.{Scans}
use Rattle.tree.specs.Steps.{IsFolder, Rewrites}
use Rattle.tree.specs.Tree.{Acts, FileTree, HasFiles}
use Rattle.tree.specs.Unlinks.{LacksName, Unlinks, unlinked_in}
use Rattle.tree.specs.Written.{IsFile, Written, count_of, files_after, written}
use Rattle.unixmodel.specs.Counts.{blocks_of}
use Rattle.unixmodel.specs.Files.{Entry, Files, Node, Spot, node_bytes, place_bytes, put, slot, spot_of}
use Rattle.unixmodel.specs.Files.Node.{Directory, File}
use Rattle.unixmodel.specs.NameCalls.{unlinked}

-- ---- bytes

-- a buffer begins with bytes from offset `at` on, as many as there are and as it has room for
abbrev pub IsPart : List ℕ → ℕ → List ℕ → List ℕ → ℕ → Type 0
IsPart bytes at old new k = (k ≡ min (length old) (length bytes - at)) × (new ≡ part at k bytes ++ drop k old)

-- they are those of a node
abbrev pub IsPartOf : Files → ℕ → ℕ → List ℕ → List ℕ → ℕ → Type 0
IsPartOf files number at old new k = (node : Node) → slot files number ≡ Some node
    → IsPart (node_bytes node) at old new k

-- the files are what a write leaves, and `went` is how many bytes were written
abbrev pub Writes : FileTree → FileTree → Option Written → Option ℕ → Type 0
Writes old new w went = HasFiles old new (files_after old.files w) × (went ≡ count_of w)

-- the write is that of these bytes from offset `at` on
abbrev pub WritesAt : FileTree → FileTree → ℕ → ℕ → List ℕ → Option ℕ → Type 0
WritesAt old new number at bytes went = Writes old new (written old.block_limit old.files number at bytes) went

-- a directory has the slots that its new bytes spell
abbrev pub HasPlaces : FileTree → FileTree → ℕ → ℕ → List ℕ → Type 0
HasPlaces old new d at bytes = (next : List (Option Entry)) → (r : Rewrites old d at bytes next)
    → HasFiles old new (put old.files d (Directory r.links next))

-- a file has no bytes
abbrev pub HasNoBytes : FileTree → FileTree → ℕ → Type 0
HasNoBytes old new number = (f : IsFile old.files number) → HasFiles old new (put old.files number (File f.links []))

-- ---- who holds nodes

-- a node is held once less, and goes where nothing keeps it
abbrev pub LetsGo : FileTree → FileTree → ℕ → Type 0
LetsGo old new number =
    new ≡ record old {
      files = let_go (without_hold old.holds number) old.files number;
      holds = without_hold old.holds number;
      failures = new.failures;
    }

-- nobody holds any node, and those without links have gone
abbrev pub IsSwept : FileTree → FileTree → Type 0
IsSwept old new = new ≡ record old
    { files = unheld old.files; holds = replicate (length old.holds) 0; failures = new.failures }

-- ---- directories

-- the bytes of slots from slot k on
abbrev pub ArePlaces : Files → ℕ → ℕ → List ℕ → List ℕ → Type 0
ArePlaces files d k old new = (f : IsFolder files d) → new ≡ part (16 * k) (length old) (flat_map place_bytes f.places)

-- the first slot from `from` on that is what is sought
abbrev pub ScansFolder : Files → ℕ → Sought → ℕ → Option Found → Type 0
ScansFolder files d sought from found = (f : IsFolder files d) → Scans sought (flat_map place_bytes f.places) from found

-- the slot of a name
abbrev pub FindsName : Files → ℕ → List ℕ → Option Found → Type 0
FindsName files d name found = (f : IsFolder files d) → found ≡ found_in f.places name

-- where an entry of a name goes
abbrev pub TellsRoomFor : List (Option Entry) → List ℕ → Room → Type 0
TellsRoomFor places name Named = IsSome (found_in places name)
TellsRoomFor places name Full = (found_in places name ≡ None) × (room_in places ≡ None)
TellsRoomFor places name (At k) = (found_in places name ≡ None) × (room_in places ≡ Some k)

abbrev pub FindsRoom : Files → ℕ → List ℕ → Room → Type 0
FindsRoom files d name room = (f : IsFolder files d) → TellsRoomFor f.places name room

-- whether there are blocks for an entry in a slot, and `more` beside
abbrev pub TellsRoom : FileTree → ℕ → ℕ → ℕ → Bool → Type 0
TellsRoom t d place more enough = (r : HasRoom t.files d place)
    → enough ≡ nat_le (blocks_of t.files + (growth r.places place + more)) t.block_limit

-- there are blocks for an entry in a slot
abbrev pub HasBlocks : FileTree → ℕ → ℕ → Type 0
HasBlocks t d place = (r : HasRoom t.files d place) → blocks_of t.files + growth r.places place ≤ t.block_limit

abbrev pub spot_in : Gap → Spot
spot_in gap = record { directory = gap.directory; name = gap.name.now }

-- the files with an entry in a gap
abbrev pub filled : Files → Gap → ℕ → Files
filled files gap number = entered files gap.directory gap.place (record { name = gap.name.now; number = number })

-- ---- paths

abbrev pub IsAbove : Files → ℕ → List ℕ → Option (ℕ × Bor (List ℕ)) → Type 0
IsAbove files d path told = option_map (λ two. (two.0, two.1.now)) told ≡ above files d path

-- the directory and the name of a spot
abbrev pub IsSpot : Files → ℕ → List ℕ → ℕ × Bor (List ℕ) → Type 0
IsSpot files d path told = spot_of files d path ≡ Some (record { directory = told.0; name = told.1.now })

abbrev pub FindsSpot : FileTree → FileTree → ℕ → List ℕ → Result (ℕ × Bor (List ℕ)) TreeFault → Type 0
FindsSpot old new d path result =
    Acts old new result (λ told. IsSpot old.files d path told × (new.files ≡ old.files))
    (spot_of old.files d path ≡ None) (LacksSpot old.files d path)

-- the spot of a path whose name is free, and the slot of its entry; there are `more` blocks beside those that the entry
-- takes
abbrev pub FindsGap : FileTree → FileTree → ℕ → List ℕ → ℕ → Result Gap TreeFault → Type 0
FindsGap old new d path more result =
    Acts old new result (λ gap. HasGap old.block_limit old.files d path more (spot_in gap) gap.place
    × (new.files ≡ old.files)) (Unit {0}) (LacksGap old.block_limit old.files d path more)

-- ---- calls on names

-- a new node without bytes, and its number
abbrev pub MakesNode : FileTree → FileTree → ℕ → List ℕ → Node → Result ℕ TreeFault → Type 0
MakesNode old new d path node result =
    let made = made_in old.files d path node in
    Acts old new result (λ n. made ≡ Some (record { files = new.files; number = n }))
    (Overflows old.block_limit (made_files made)) (LacksMaking old.block_limit old.files d path 0)

abbrev pub MakesLink : FileTree → FileTree → ℕ → List ℕ → List ℕ → Result (Unit {0}) TreeFault → Type 0
MakesLink old new d from to result =
    let made = linked_in old.files d from to in
    Acts old new result (λ _. made ≡ Some new.files) (Overflows old.block_limit made)
    (LacksLinking old.block_limit old.files d from to)

abbrev pub MakesDirectory : FileTree → FileTree → ℕ → List ℕ → Result (Unit {0}) TreeFault → Type 0
MakesDirectory old new d path result =
    let made = folder_in old.files d path in
    Acts old new result (λ _. made ≡ Some new.files) (Overflows old.block_limit made)
    (LacksFolder old.block_limit old.files d path)

abbrev pub TakesName : FileTree → FileTree → ℕ → List ℕ → Result (Unit {0}) TreeFault → Type 0
TakesName old new d path result =
    let left = unlinked_in old.holds old.files d path in
    Acts old new result (λ _. left ≡ Some new.files) (left ≡ None) (LacksUnlinking old.files d path)

-- a name goes, and the result is its number
abbrev pub RemovesName : FileTree → FileTree → Spot → Result ℕ TreeFault → Type 0
RemovesName old new at result =
    Acts old new result (Unlinks old.files new.files at) (unlinked old.files at ≡ None) (LacksName old.files at)
