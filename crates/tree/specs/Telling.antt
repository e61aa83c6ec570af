-- The attributes of a node, as `stat` reports them.
use Rattle.std.specs.Prelude.{None, Option, Some, ⊤, ℕ, ◌≡◌}
use Rattle.inode.specs.declared.InodeStat.{InodeStat}
use Rattle.unixmodel.specs.Files.{Node, kind_of, links_of, size_of}
use Rattle.unixmodel.specs.Files.Node.{Device, Directory, File}

-- a major number matters for devices alone
abbrev pub TellsMajor : ℕ → Node → Type 0
TellsMajor told (File links bytes) = ⊤
TellsMajor told (Device links major minor) = told ≡ major
TellsMajor told (Directory links places) = ⊤

abbrev pub Tells : InodeStat → Node → Type 0
Tells s node = (s.kind ≡ kind_of node) × (s.links ≡ links_of node) × (s.size ≡ size_of node) × TellsMajor s.major node

-- the attributes of a number that may have a node
abbrev pub TellsAny : Option InodeStat → Option Node → Type 0
TellsAny None None = ⊤
TellsAny None (Some node) = ⊥
TellsAny (Some s) None = ⊥
TellsAny (Some s) (Some node) = Tells s node

-- the minor number of a device
abbrev pub minor_of : Node → ℕ
minor_of (File links bytes) = 0
minor_of (Device links major minor) = minor
minor_of (Directory links places) = 0
