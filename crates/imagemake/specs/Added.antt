-- What the steps that put a node do to the files.
use Rattle.std.specs.Prelude.{Err, IsErrOf, IsTrue, List, MatchResult, None, Ok, Option, Result, Some, is_some, length}
use Rattle.std.specs.Prelude.{replicate, true, ⊤, ℕ, ◌+◌, ◌<◌, ◌⊎◌, ◌≡◌, ◌≤◌, false}
use Rattle.inode.specs.Store.{Store}
use Rattle.layout.specs.declared.Geometry.{Geometry}
use Rattle.layout.specs.Super.{data_start_of}
use Rattle.tree.specs.Steps.{IsUnnamed}
use Rattle.tree.specs.Tree.{FileTree, HasFiles}
use Rattle.unixmodel.specs.Counts.{blocks_of}
use Rattle.unixmodel.specs.Failures.{Rises}
use Rattle.unixmodel.specs.Files.{Entry, Files, Node, longest, put, size_of, slot}
use Rattle.unixmodel.specs.Files.Node.{Directory}
use Rattle.unixmodel.specs.Formats.{format}
use Rattle.unixmodel.specs.Image.{is_name}
use Rattle.unixmodel.specs.Manifest.{Thing, Wrong, added, appended, if_room, linked}
use Rattle.imagemake.specs.declared.store.StoreFault.{StoreFault}
use Rattle.imagemake.specs.declared.store.StoreFault.TheVariants.{Blocks, Device}

-- the blocks don't suffice where `full` holds; an access may fail at any time
abbrev pub TellsFull : Type 0 → StoreFault → Type 0
TellsFull full Blocks = full
TellsFull full Device = ⊤

-- a fault is returned only where the device counts a failed access
pub record Owns {E : Type 0} (fault : E) (before now : ℕ) (result : Result (Unit {0}) E) : Type 0 where
  pub later : before ≤ now
  pub failed : IsErrOf result fault → Rises before now

-- ---- a directory

-- each entry is in use
abbrev pub IsPacked : List (Option Entry) → Type 0
IsPacked places = (k : ℕ) → k < length places → is_some (slot places k) ≡ true

abbrev pub PackedAt : Option Node → Type 0
PackedAt (Some (Directory links places)) = IsPacked places
PackedAt o = ⊤

-- d is a directory that can have a name and a link more
pub record HasDirectory (files : Files) (d : ℕ) : Type 0 where
  pub links : ℕ
  pub places : List (Option Entry)
  pub here : slot files d ≡ Some (Directory links places)
  pub few : links < 65535
  pub packed : IsPacked places

-- ---- a node

-- with this node at n the files have no room: it is too long, or they take more blocks than there are
abbrev pub LacksRoomFor : ℕ → Files → ℕ → Node → Type 0
LacksRoomFor limit files n node = (longest < size_of node) ⊎ (limit < blocks_of (put files n node))

-- the node is at n, or there is no room for it
pub record Puts (old new : FileTree) (n : ℕ) (node : Node) (result : Result (Unit {0}) StoreFault) : Type 0 where
  pub done : MatchResult result (λ _. HasFiles old new (put old.files n node))
      (TellsFull (LacksRoomFor old.block_limit old.files n node))
  pub owns : Owns Device old.failures new.failures result

-- a name, and the link that a directory's ".." is, come into directory d, or there is no room for them
abbrev pub PutsName : FileTree → FileTree → ℕ → Entry → Thing → Result (Unit {0}) StoreFault → Type 0
PutsName old new d e thing result =
    (h : HasDirectory old.files d) → Puts old new d (linked thing (appended e (Directory h.links h.places))) result

-- ---- an entry

-- n isn't in use, and is to have this name in directory d, of which each entry is in use
pub record CanAdd (files : Files) (d : ℕ) (name : List ℕ) (n : ℕ) : Type 0 where
  pub links : ℕ
  pub places : List (Option Entry)
  pub directory : slot files d ≡ Some (Directory links places)
  pub few : links < 65535
  pub packed : IsPacked places
  pub named : IsTrue (is_name name)
  pub number : IsUnnamed files n

-- the files with the entry where they have room; it is refused exactly where they have none
pub record Stores (old new : FileTree) (d : ℕ) (name : List ℕ) (n : ℕ) (thing : Thing)
    (result : Result (Unit {0}) StoreFault) : Type 0 where
  pub stored : MatchResult result
      (λ _. HasFiles old new (added old.files d name n thing)
      × (if_room old.block_limit d n (added old.files d name n thing) ≡ Ok (added old.files d name n thing)))
      (TellsFull (if_room old.block_limit d n (added old.files d name n thing) ≡ Err Wrong.Blocks))
  pub owns : Owns Device old.failures new.failures result

-- ---- a disk without files

-- these numbers are those of an image
pub record IsPossible (g : Geometry) : Type 0 where
  pub size_low : 32 ≤ g.size
  pub size_high : g.size ≤ format.most
  pub inodes_low : 16 ≤ g.inodes
  pub inodes_high : g.inodes ≤ 8192
  pub room : data_start_of g.size g.inodes < g.size

pub record IsBlank {D : Type 0} (g : Geometry) (s : Store D) : Type 0 where
  pub numbers : s.geometry ≡ g
  pub nodes : s.nodes ≡ replicate g.inodes None
  pub free : s.free + data_start_of g.size g.inodes ≡ g.size
  pub up : s.failed ≡ false
