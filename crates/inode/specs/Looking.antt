-- The attributes of an inode, as `stat` returns them.
use Rattle.std.specs.Prelude.{◌≡◌, ℕ, List, None, Option, Some, length, ⊤}
use Rattle.inode.specs.declared.InodeStat.{InodeStat}
use Rattle.layout.specs.declared.DiskInode.{DiskInode}
use Rattle.layout.specs.Inode.{inode_kind}
use Rattle.layout.specs.Kinds.{kind_major, kind_number}
use Rattle.layout.specs.Image.{IsInode, RawNode, bytes_of, inode_at, node_with}

abbrev pub told : DiskInode → InodeStat
told inode = record {
  kind = kind_number (inode_kind inode);
  major = kind_major (inode_kind inode);
  links = inode.links;
  size = inode.size;
}

-- these are the attributes of a node
pub record IsTold (node : RawNode) (s : InodeStat) : Type 0 where
  pub kind : s.kind ≡ kind_number node.kind
  pub major : s.major ≡ kind_major node.kind
  pub links : s.links ≡ node.links
  pub size : s.size ≡ length node.bytes

-- inode n as a node
abbrev pub node_in : List (List ℕ) → ℕ → RawNode
node_in blocks n = node_with (inode_at blocks n) (bytes_of blocks n)

-- the attributes of any number, which an inode in use may have or not
abbrev pub Tells : List (List ℕ) → ℕ → ℕ → Option InodeStat → Type 0
Tells blocks inodes n None = IsInode blocks inodes n → ⊥
Tells blocks inodes n (Some s) = IsInode blocks inodes n × IsTold (node_in blocks n) s

-- the attributes of the node of a number, if there is one
abbrev pub TellsAny : Option RawNode → Option InodeStat → Type 0
TellsAny None None = ⊤
TellsAny None (Some s) = ⊥
TellsAny (Some node) None = ⊥
TellsAny (Some node) (Some s) = IsTold node s
