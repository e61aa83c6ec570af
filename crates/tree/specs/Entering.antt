-- How an entry is added to a directory, and what it needs.
use Rattle.std.specs.Prelude.{IsSome, List, None, Option, Some, [], if◌then◌else◌, length, nat_lt, option_and_then}
use Rattle.std.specs.Prelude.{option_map, suc, ℕ, ◌*◌, ◌++◌, ◌+◌, ◌-◌, ◌<◌, ◌∷◌, ◌≡◌, ◌≤◌}
use Rattle.layout.specs.Image.{taken_for}
use Rattle.layout.specs.declared.Kind.{Kind}
use Rattle.layout.specs.declared.Kind.TheVariants as kind
use Rattle.tree.specs.declared.place.Room.{Room}
use Rattle.tree.specs.declared.place.Room.TheVariants.{At, Full}
use Rattle.unixmodel.specs.Counts.{blocks_of}
use Rattle.unixmodel.specs.Files.{Entry, Files, Node, Spot, change_node, find, free_slot, lookup, most_places}
use Rattle.unixmodel.specs.Files.{places_at, put, slot, spot_of}
use Rattle.unixmodel.specs.Files.Node.{Device, Directory, File}
use Rattle.unixmodel.specs.NameCalls.{Made, linked, made_at, made_directory}

-- ---- the slot of a new entry

-- after all slots, while there is room
abbrev pub room_behind : ℕ → Option ℕ
room_behind count = if nat_lt count most_places then Some count else None

-- the same where no entry has the name
abbrev pub room_told : Option ℕ → Room
room_told None = Full
room_told (Some k) = At k

-- the first free slot, or the end
abbrev pub room_at : List (Option Entry) → Option ℕ → Option ℕ
room_at places (Some k) = Some k
room_at places None = room_behind (length places)

unfoldable pub room_in : List (Option Entry) → Option ℕ
room_in places = room_at places (free_slot places)

abbrev pub placed : List (Option Entry) → ℕ → Entry → List (Option Entry)
placed places k e = if nat_lt k (length places) then put places k e else places ++ Some e ∷ []

abbrev pub with_place : ℕ → Entry → Node → Node
with_place k e (File links bytes) = File links bytes
with_place k e (Device links major minor) = Device links major minor
with_place k e (Directory links places) = Directory links (placed places k e)

-- the files with an entry in slot k of directory d
unfoldable pub entered : Files → ℕ → ℕ → Entry → Files
entered files d k e = change_node files d (with_place k e)

-- ---- the blocks that it takes

-- how many more blocks are taken with an entry in slot k
abbrev pub growth : List (Option Entry) → ℕ → ℕ
growth places k = if nat_lt k (length places) then 0
    else taken_for (16 * length places + 16) - taken_for (16 * length places)

-- d is a directory in which slot k is the next for an entry
pub record HasRoom (files : Files) (d k : ℕ) : Type 0 where
  pub links : ℕ
  pub places : List (Option Entry)
  pub here : slot files d ≡ Some (Directory links places)
  pub room : room_in places ≡ Some k

-- ---- a new name

-- this spot is that of a path, its name is free, and its entry goes into slot k; there are `more` blocks beside those
-- that it takes
pub record HasGap (limit : ℕ) (files : Files) (d : ℕ) (path : List ℕ) (more : ℕ) (at : Spot) (k : ℕ) : Type 0 where
  pub spot : spot_of files d path ≡ Some at
  pub free : lookup files at.directory at.name ≡ None
  pub links : ℕ
  pub places : List (Option Entry)
  pub here : slot files at.directory ≡ Some (Directory (suc links) places)
  pub room : room_in places ≡ Some k
  pub fits : blocks_of files + (growth places k + more) ≤ limit

-- the name is there
pub record IsThere (files : Files) (d : ℕ) (path : List ℕ) : Type 0 where
  pub at : Spot
  pub spot : spot_of files d path ≡ Some at
  pub named : IsSome (lookup files at.directory at.name)

-- the directory has no room for an entry
pub record IsFullAt (files : Files) (d : ℕ) (path : List ℕ) : Type 0 where
  pub at : Spot
  pub spot : spot_of files d path ≡ Some at
  pub none : option_and_then room_in (places_at files at.directory) ≡ None

-- the disk has no room for it and `more` blocks
pub record LacksBlocks (limit : ℕ) (files : Files) (d : ℕ) (path : List ℕ) (more : ℕ) : Type 0 where
  pub at : Spot
  pub spot : spot_of files d path ≡ Some at
  pub places : List (Option Entry)
  pub here : places_at files at.directory ≡ Some places
  pub place : ℕ
  pub room : room_in places ≡ Some place
  pub few : limit < blocks_of files + growth places place + more

-- ---- a new node

-- a node without bytes, where the kind is that of one
abbrev pub fresh : Kind → Option Node
fresh kind.Free = None
fresh kind.Directory = Some (Directory 1 [])
fresh kind.File = Some (File 1 [])
fresh (kind.Device major minor) = Some (Device 1 major minor)

-- the files with a new file or device
unfoldable pub made_in : Files → ℕ → List ℕ → Node → Option Made
made_in files d path node = option_and_then (λ at. made_at files at (λ n. node)) (spot_of files d path)

abbrev pub made_files : Option Made → Option Files
made_files o = option_map (λ (made : Made). made.files) o

-- ---- a new directory

unfoldable pub folder_in : Files → ℕ → List ℕ → Option Files
folder_in files d path = option_and_then (made_directory files) (spot_of files d path)

-- ---- another name

-- the files with another name for what the old path reaches
unfoldable pub linked_in : Files → ℕ → List ℕ → List ℕ → Option Files
linked_in files d old new =
    option_and_then (λ n. option_and_then (λ at. linked files at n) (spot_of files d new)) (find files d old)

-- a path reaches a node of which this holds
pub record Reaches (files : Files) (d : ℕ) (path : List ℕ) (P : Node → Type 0) : Type 0 where
  pub number : ℕ
  pub node : Node
  pub found : find files d path ≡ Some number
  pub here : slot files number ≡ Some node
  pub is : P node
