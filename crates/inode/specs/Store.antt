-- A disk with files, as callers see it: nodes by the numbers of their inodes.
use Rattle.std.specs.Prelude.{Bool, Err, OnOk, IfErr, IfOk, List, None, Ok, Option, Result, Some, [], false, length}
use Rattle.std.specs.Prelude.{slice_set, take, true, unwrap_or, ⊤, ℕ, ◌+◌, ◌<◌, ◌≡◌, ◌≢◌, ◌≤◌}
use Rattle.blockdev.specs.Splice.{splice}
use Rattle.blockdev.specs.declared.DeviceFault.{DeviceFault}
use Rattle.balloc.specs.Inodes.{fresh_node}
use Rattle.cache.specs.Disk.{Disk}
use Rattle.inode.specs.Writing.{LacksAt, with_links}
use Rattle.inode.specs.declared.InodeFault.{InodeFault}
use Rattle.inode.specs.declared.InodeFault.TheVariants.{Blocks, Device, PastEnd, TooLong}
use Rattle.inode.specs.declared.write.Outcome.{Outcome}
use Rattle.inode.specs.declared.write.Outcome.TheVariants as outcome
use Rattle.inode.specs.declared.volume.Volume.TheInside.{Inside}
use Rattle.layout.specs.declared.Geometry.{Geometry}
use Rattle.layout.specs.declared.Kind.{Kind}
use Rattle.layout.specs.declared.Kind.TheVariants.{Free}
use Rattle.layout.specs.Image.{RawNode, free_blocks, nodes_of, taken_for}
use Rattle.layout.specs.Sound.{IsSound}
use Rattle.unixmodel.specs.Failures.{HasCause, Rises}
use Rattle.unixmodel.specs.Files.{longest, slot}

pub record Store (D : Type 0) : Type 0 where
  pub geometry : Geometry
  -- the node of each number
  pub nodes : List (Option RawNode)
  -- how many data blocks are free
  pub free : ℕ
  pub device : D
  -- how often an access of the device has failed
  pub failures : ℕ
  -- an access has failed: nothing is promised of the nodes any more
  pub failed : Bool

abbrev pub store_over : {D : Type 0} → Geometry → Disk D → Bool → Store D
store_over g disk failed = record {
  geometry = g;
  nodes = nodes_of disk.blocks g.inodes;
  free = free_blocks g disk.blocks;
  device = disk.device;
  failures = disk.failures;
  failed = failed;
}

abbrev pub store_of : {D : Type 0} → Inside D → Store D
store_of t = store_over t.geometry t.disk t.failed

-- while no access has failed the disk is sound
abbrev pub IsInside : {D : Type 0} → Inside D → Type 0
IsInside t = t.failed ≡ false → IsSound t.geometry t.disk.blocks

-- ---- what the nodes of every disk keep

pub record IsNode (n : ℕ) (node : RawNode) : Type 0 where
  pub low : 1 ≤ n
  pub kind : node.kind ≢ Free
  pub short : length node.bytes ≤ longest

pub record IsWhole {D : Type 0} (s : Store D) : Type 0 where
  pub count : length s.nodes ≡ s.geometry.inodes
  pub most : s.geometry.inodes ≤ 8192
  pub each : (n : ℕ) (node : RawNode) → slot s.nodes n ≡ Some node → IsNode n node

-- ---- copies

-- the files of another disk, over a device like its own
pub record IsCopy {D : Type 0} (identity : D → List ℕ) (source new : Store D) : Type 0 where
  pub geometry : new.geometry ≡ source.geometry
  pub nodes : new.nodes ≡ source.nodes
  pub free : new.free ≡ source.free
  pub same_device : identity new.device ≡ identity source.device
  pub failures : new.failures ≡ source.failures
  pub failed : new.failed ≡ source.failed

-- ---- what calls return

-- the numbers are as they were, and the device is the same
pub record Follows {D : Type 0} (identity : D → List ℕ) (old new : Store D) : Type 0 where
  pub geometry : new.geometry ≡ old.geometry
  pub same_device : identity new.device ≡ identity old.device
  pub later : old.failures ≤ new.failures

abbrev pub has_failed : {T E : Type 0} → (E → Bool) → Result T E → Bool
has_failed is_lost (Ok x) = false
has_failed is_lost (Err fault) = is_lost fault

-- Where no access fails it is done, or refused, which says why. A failure of an access is returned as a fault of its
-- own, and only where the device counts it.
pub record Serves {D T E : Type 0} (identity : D → List ℕ) (is_lost : E → Bool) (old new : Store D)
    (result : Result T E) (Done : T → Type 0) (Why : E → Type 0) : Type 0 where
  pub done : IfOk result Done
  pub refused : IfErr result (λ fault. is_lost fault ≡ false → Why fault)
  pub follows : Follows identity old new
  pub failed : new.failed ≡ has_failed is_lost result
  pub cause : has_failed is_lost result ≡ true → Rises old.failures new.failures

-- it is refused only where the device fails
abbrev pub Tries : {D T : Type 0} → (D → List ℕ) → Store D → Store D → Result T DeviceFault → (T → Type 0) → Type 0
Tries identity old new result Done = Serves identity (λ _. true) old new result Done (λ _. ⊤)

-- the nodes are as they were, and so is what is free
pub record Keeps {D : Type 0} (old new : Store D) : Type 0 where
  pub nodes : new.nodes ≡ old.nodes
  pub free : new.free ≡ old.free

-- the result's condition holds, and nothing is changed
abbrev pub Looks : {D T : Type 0} → (D → List ℕ) → Store D → Store D → Result T DeviceFault → (T → Type 0) → Type 0
Looks identity old new result Told = Tries identity old new result (λ x. Keeps old new × Told x)

-- ---- one node changes

-- how many blocks it takes
abbrev pub used_by : Option RawNode → ℕ
used_by None = 0
used_by (Some node) = taken_for (length node.bytes)

-- this is the node of number n now, if there is one; all others stay, and the blocks that it takes aren't free
pub record Changes {D : Type 0} (old new : Store D) (n : ℕ) (node : Option RawNode) : Type 0 where
  pub whole : IsWhole new
  pub nodes : new.nodes ≡ slice_set old.nodes n node
  pub free : new.free + used_by node ≡ old.free + used_by (slot old.nodes n)

-- the node of a number that has one
abbrev pub no_node : RawNode
no_node = record { kind = Free; links = 0; bytes = [] }

abbrev pub raw_at : List (Option RawNode) → ℕ → RawNode
raw_at nodes n = unwrap_or (slot nodes n) no_node

abbrev pub with_bytes : RawNode → List ℕ → RawNode
with_bytes node bytes = record node { bytes = bytes }

-- a node has no bytes
abbrev pub IsEmptied : {D : Type 0} → Store D → Store D → ℕ → Type 0
IsEmptied old new n = Changes old new n (Some (with_bytes (raw_at old.nodes n) []))

-- a node has `links` links
abbrev pub HasLinks : {D : Type 0} → Store D → Store D → ℕ → ℕ → Type 0
HasLinks old new n links = Changes old new n (Some (with_links (raw_at old.nodes n) links))

-- ---- one more node

-- n is the lowest number without a node
pub record IsLowestFree (nodes : List (Option RawNode)) (n : ℕ) : Type 0 where
  pub low : 1 ≤ n
  pub high : n < length nodes
  pub free : slot nodes n ≡ None
  pub lowest : (m : ℕ) → 1 ≤ m → m < n → slot nodes m ≢ None

-- the lowest number without a node gets a node without bytes, or each has one and nothing is changed
abbrev pub TakesLowest : {D : Type 0} → Store D → Store D → Kind → ℕ → Option ℕ → Type 0
TakesLowest old new kind links (Some n) = IsLowestFree old.nodes n × Changes old new n (fresh_node kind links)
TakesLowest old new kind links None = Keeps old new × ((n : ℕ) → 1 ≤ n → n < length old.nodes → slot old.nodes n ≢ None)

-- ---- bytes are written

abbrev pub is_device : InodeFault → Bool
is_device Device = true
is_device _ = false

-- the bytes are written to node n from offset `at` on
pub record Writes {D : Type 0} (old new : Store D) (n at : ℕ) (bytes : List ℕ) : Type 0 where
  pub within : at ≤ length (raw_at old.nodes n).bytes
  pub short : at + length bytes ≤ longest
  pub changes : Changes old new n (Some (with_bytes (raw_at old.nodes n) (splice at bytes (raw_at old.nodes n).bytes)))

-- k of the bytes are written, and the next one needs more blocks than are free
pub record IsFull {D : Type 0} (old new : Store D) (n at : ℕ) (bytes : List ℕ) (k : ℕ) : Type 0 where
  pub some_left : k < length bytes
  pub within : at ≤ length (raw_at old.nodes n).bytes
  pub short : at + length bytes ≤ longest
  pub changes : Changes old new n
      (Some (with_bytes (raw_at old.nodes n) (splice at (take k bytes) (raw_at old.nodes n).bytes)))
  pub few : LacksAt old.free (raw_at old.nodes n).bytes (at + k)

-- the first k of the bytes are written; if there are more, the next one needs more blocks than are free
pub record WritesSome {D : Type 0} (old new : Store D) (n at : ℕ) (bytes : List ℕ) (k : ℕ) : Type 0 where
  pub most : k ≤ length bytes
  pub changes : Changes old new n
      (Some (with_bytes (raw_at old.nodes n) (splice at (take k bytes) (raw_at old.nodes n).bytes)))
  pub few : k < length bytes → LacksAt old.free (raw_at old.nodes n).bytes (at + k)

-- the outcome of a write of these bytes to node n from offset `at` on
abbrev pub WritesFrom : {D : Type 0} → Store D → Store D → ℕ → ℕ → List ℕ → Outcome → Type 0
WritesFrom old new n at bytes outcome.PastEnd = Keeps old new × (length (raw_at old.nodes n).bytes < at)
WritesFrom old new n at bytes outcome.TooLong = Keeps old new × (at ≤ length (raw_at old.nodes n).bytes)
    × (longest < at + length bytes)
WritesFrom old new n at bytes (outcome.Written k) = (at ≤ length (raw_at old.nodes n).bytes)
    × (at + length bytes ≤ longest) × WritesSome old new n at bytes k

-- why not all of them are
abbrev pub LacksWriting : {D : Type 0} → Store D → Store D → ℕ → ℕ → List ℕ → InodeFault → Type 0
LacksWriting old new n at bytes PastEnd = Keeps old new × (length (raw_at old.nodes n).bytes < at)
LacksWriting old new n at bytes TooLong = Keeps old new × (at ≤ length (raw_at old.nodes n).bytes)
    × (longest < at + length bytes)
LacksWriting old new n at bytes (Blocks k) = IsFull old new n at bytes k
LacksWriting old new n at bytes Device = ⊤

-- ---- the disk is given up

-- the device has these nodes, in blocks that are sound
pub record IsLaidOut (g : Geometry) (blocks : List (List ℕ)) (shown : List (Option RawNode)) (left : ℕ) : Type 0 where
  pub sound : IsSound g blocks
  pub nodes : nodes_of blocks g.inodes ≡ shown
  pub free : free_blocks g blocks ≡ left

-- what the device is left with
pub record Flushed {D : Type 0} (content : D → List (List ℕ)) (failures : D → ℕ) (identity : D → List ℕ) (s : Store D)
    (left : D) (result : Result (Unit {0}) DeviceFault) : Type 0 where
  pub stored : OnOk result (IsLaidOut s.geometry (content left) s.nodes s.free)
  pub same_device : identity left ≡ identity s.device
  pub cause : HasCause s.failures (failures left) result
