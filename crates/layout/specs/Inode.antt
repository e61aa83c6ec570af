-- An inode and its 64 bytes.
use Rattle.std.specs.Prelude.{◌≡◌, ℕ, ◌<◌, ◌^◌, ◌++◌, List, length, drop, get_or, replicate}
use Rattle.byteorder.specs.Endian.{little_number, little_bytes}
use Rattle.layout.specs.declared.DiskInode.{DiskInode}
use Rattle.layout.specs.declared.Kind.{Kind}
use Rattle.layout.specs.Kinds.{kind_major, kind_minor, kind_number, kind_read}
use Rattle.layout.specs.Numbers.{numbers_in, spelled}

-- the inode that the bytes spell
abbrev pub inode_of : List ℕ → DiskInode
inode_of bytes = record {
  kind = little_number 2 bytes;
  major = little_number 2 (drop 2 bytes);
  minor = little_number 2 (drop 4 bytes);
  links = little_number 2 (drop 6 bytes);
  size = little_number 4 (drop 8 bytes);
  addresses = numbers_in 13 (drop 12 bytes);
}

-- its type
abbrev pub inode_kind : DiskInode → Kind
inode_kind inode = kind_read inode.kind inode.major inode.minor

-- one without bytes
abbrev pub fresh_inode : Kind → ℕ → DiskInode
fresh_inode kind links = record {
  kind = kind_number kind;
  major = kind_major kind;
  minor = kind_minor kind;
  links = links;
  size = 0;
  addresses = replicate 13 0;
}

-- its bytes
abbrev pub inode_bytes : DiskInode → List ℕ
inode_bytes inode =
    little_bytes 2 inode.kind
    ++ (little_bytes 2 inode.major ++ (little_bytes 2 inode.minor ++ (little_bytes 2 inode.links
    ++ (little_bytes 4 inode.size ++ spelled inode.addresses))))

-- an inode that its bytes can hold
pub record Fits (inode : DiskInode) : Type 0 where
  pub kind : inode.kind < 2 ^ 16
  pub major : inode.major < 2 ^ 16
  pub minor : inode.minor < 2 ^ 16
  pub links : inode.links < 2 ^ 16
  pub size : inode.size < 2 ^ 32
  pub addresses : (i : ℕ) → i < length inode.addresses → get_or inode.addresses i 0 < 2 ^ 32
  pub places : length inode.addresses ≡ 13
