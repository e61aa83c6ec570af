-- The bytes that are moved between a node and the memory of a slot.
use Rattle.std.specs.Prelude.{List, None, OnErr, OnOk, Option, Result, Some, [], drop, false, length, take, true}
use Rattle.std.specs.Prelude.{unwrap_or, ℕ, ◌≡◌, ◌≤◌}
use Rattle.blockdev.specs.declared.DeviceFault.{DeviceFault}
use Rattle.spaces.specs.Spaces.{Spaces, has_space, view_at, with_view, written}
use Rattle.tree.specs.Tree.{FileTree, Serves}
use Rattle.tree.specs.Written.{Written, written as written_to}
use Rattle.unixmodel.specs.Files.{Files, Node, node_bytes, slot}
use Rattle.unixmodel.specs.Memory.{can_write, read_bytes}

abbrev pub bytes_of : Option Node → List ℕ
bytes_of None = []
bytes_of (Some node) = node_bytes node

-- the bytes of a node from an offset on, at most `count`
abbrev pub bytes_read : Files → ℕ → ℕ → ℕ → List ℕ
bytes_read files number offset count = take count (drop offset (bytes_of (slot files number)))

-- a read leaves the files as they were, and returns how many bytes were read
pub record IsRead (old new : FileTree) (number offset most told : ℕ) : Type 0 where
  pub same : new ≡ record old { failures = new.failures }
  pub count : told ≡ length (bytes_read old.files number offset most)

-- the memory of a slot has these bytes from an address on
abbrev pub with_bytes : Spaces → ℕ → ℕ → List ℕ → Spaces
with_bytes s at address bytes = with_view s at (written (view_at s at) address bytes)

-- `count` bytes of a slot, which its program may read
abbrev pub bytes_given : Spaces → ℕ → ℕ → ℕ → List ℕ
bytes_given s at address count = unwrap_or (read_bytes (view_at s at).memory address count) []

-- at most `count` of these bytes of a node are in the memory of a slot
abbrev pub with_read : Spaces → ℕ → ℕ → Files → ℕ → ℕ → ℕ → Spaces
with_read s at address files number offset count = with_bytes s at address (bytes_read files number offset count)

-- or fewer of them are
abbrev pub ReadsSome : Spaces → Spaces → ℕ → ℕ → Files → ℕ → ℕ → ℕ → Type 0
ReadsSome old new at address files number offset count = (done : ℕ) × (done ≤ count)
    × (new ≡ with_read old at address files number offset done)

-- a node of files in use, and `count` bytes of a slot, which its program may write
pub record MayRead (tree : FileTree) (s : Spaces) (at number address count : ℕ) : Type 0 where
  pub up : tree.failed ≡ false
  pub node : (node : Node) × (slot tree.files number ≡ Some node)
  pub space : has_space s at ≡ true
  pub writable : can_write (view_at s at).memory address count ≡ true

-- Bytes of a node are read into the memory of a slot. Where the device fails the first of them may be there.
pub record Reads (old new : FileTree) (before after : Spaces) (at number offset address count : ℕ)
    (told : Result ℕ DeviceFault) : Type 0 where
  pub serves : Serves old new told (IsRead old new number offset count)
  pub written : OnOk told (after ≡ with_read before at address old.files number offset count)
  pub failed : OnErr told (ReadsSome before after at address old.files number offset count)

-- what a write of `count` bytes of a slot to a node leaves
abbrev pub written_from : Spaces → ℕ → ℕ → ℕ → FileTree → ℕ → ℕ → Option Written
written_from s at address count tree number offset =
    written_to tree.block_limit tree.files number offset (bytes_given s at address count)
