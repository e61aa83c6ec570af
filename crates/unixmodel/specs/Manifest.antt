-- What a manifest makes: the files of an image, numbered in the manifest's order, or what is wrong with it.
-- From this project's profile; the numbers of an image are those of xv6's file system layout.
use Rattle.std.specs.Prelude.{Bool, Err, List, None, Ok, Option, Result, Some, [], if◌then◌else◌, is_some, nat_le}
use Rattle.std.specs.Prelude.{nat_lt, not, option_map, true, unwrap_or, ℕ, ◌&&◌, ◌++◌, ◌+◌, ◌-◌, ◌==◌, ◌∷◌}
use Rattle.std.specs.List.{list_all}
use Rattle.unixmodel.specs.Counts.{blocks_of}
use Rattle.unixmodel.specs.Files.{Entry, Files, Node, change_node, dot, dot_dot, follow, free_slots, links_of, longest}
use Rattle.unixmodel.specs.Files.{lookup, pieces, put, size_of, slot, split_last, with_links}
use Rattle.unixmodel.specs.Files.Node.{Device, Directory, File}
use Rattle.unixmodel.specs.Formats.{format}
use Rattle.unixmodel.specs.Image.{data_start, is_directory_at, is_name}

-- what an entry makes: a directory, a file of bytes, or a device
pub data Thing : Type 0 where
  Folder : Thing
  Bytes : (bytes : List ℕ) → Thing
  Special : (major minor : ℕ) → Thing

pub record ManifestEntry : Type 0 where
  pub path : List ℕ
  pub thing : Thing

pub data Wrong : Type 0 where
  -- the size or the count of inodes isn't one of an image
  Numbers : Wrong
  -- the path doesn't begin with a slash, or one of its names is none
  Name : Wrong
  -- the directory above is neither the root nor an earlier entry
  Parent : Wrong
  -- the name is there already
  Twice : Wrong
  -- no number is left
  Inodes : Wrong
  -- a file or a directory would be too long, or the blocks don't suffice
  Blocks : Wrong

-- ---- the numbers of an image

abbrev pub data_blocks_of : ℕ → ℕ → ℕ
data_blocks_of size inodes = size - data_start size inodes

abbrev pub has_numbers : ℕ → ℕ → Bool
has_numbers size inodes =
    nat_le 32 size && nat_le size format.most && nat_le 16 inodes && nat_le inodes 8192
    && nat_lt (data_start size inodes) size

-- ---- an entry

-- the names of a path
abbrev pub names_in : List ℕ → Option (List (List ℕ))
names_in [] = None
names_in (b ∷ rest) = if b == 0x2f && list_all is_name (pieces rest) then Some (pieces rest) else None

-- a directory without names, of number n in directory d
abbrev pub bare_directory : ℕ → ℕ → Node
bare_directory n d = Directory 1
    (Some (record { name = dot; number = n }) ∷ Some (record { name = dot_dot; number = d }) ∷ [])

abbrev pub node_for : ℕ → ℕ → Thing → Node
node_for n d Folder = bare_directory n d
node_for n d (Bytes bytes) = File 1 bytes
node_for n d (Special major minor) = Device 1 major minor

-- a directory with one more name, at its end
abbrev pub appended : Entry → Node → Node
appended e (File links bytes) = File links bytes
appended e (Device links major minor) = Device links major minor
appended e (Directory links places) = Directory links (places ++ Some e ∷ [])

-- the ".." of a directory is a link of the one above
abbrev pub linked : Thing → Node → Node
linked Folder node = with_links node (links_of node + 1)
linked (Bytes bytes) node = node
linked (Special major minor) node = node

-- the files with number n, which has this name in directory d
unfoldable pub added : Files → ℕ → List ℕ → ℕ → Thing → Files
added files d name n thing =
    put (change_node files d (λ node. linked thing (appended (record { name = name; number = n }) node))) n
    (node_for n d thing)

abbrev pub is_short : Files → ℕ → Bool
is_short files n = unwrap_or (option_map (λ (node : Node). nat_le (size_of node) longest) (slot files n)) true

-- no node is too long, and the blocks suffice
abbrev pub if_room : ℕ → ℕ → ℕ → Files → Result Files Wrong
if_room blocks d n files =
    if is_short files n && is_short files d && nat_le (blocks_of files) blocks then Ok files else Err Blocks

abbrev pub with_name : ℕ → ℕ → Files → ℕ → Thing → List ℕ → Option ℕ → Result Files Wrong
with_name blocks inodes files n thing name None = Err Parent
with_name blocks inodes files n thing name (Some d) =
    if not (is_directory_at files d) then Err Parent
    else if is_some (lookup files d name) then Err Twice
    else if nat_le inodes n then Err Inodes
    else if_room blocks d n (added files d name n thing)

abbrev pub with_split : ℕ → ℕ → Files → ℕ → Thing → Option (List (List ℕ) × List ℕ) → Result Files Wrong
with_split blocks inodes files n thing None = Err Name
with_split blocks inodes files n thing (Some split) =
    with_name blocks inodes files n thing split.1 (follow files 1 split.0)

abbrev pub with_names : ℕ → ℕ → Files → ℕ → Thing → Option (List (List ℕ)) → Result Files Wrong
with_names blocks inodes files n thing None = Err Name
with_names blocks inodes files n thing (Some names) = with_split blocks inodes files n thing (split_last names)

-- an entry takes number n
unfoldable pub with_manifest_entry : ℕ → ℕ → Files → ℕ → ManifestEntry → Result Files Wrong
with_manifest_entry blocks inodes files n e = with_names blocks inodes files n e.thing (names_in e.path)

-- ---- all of them, in order, up to the first that is wrong

abbrev pub and_then : Result Files Wrong → (Files → Result Files Wrong) → Result Files Wrong
and_then (Ok files) rest = rest files
and_then (Err wrong) rest = Err wrong

unfoldable pub with_entries : ℕ → ℕ → Files → ℕ → List ManifestEntry → Result Files Wrong
with_entries blocks inodes files n [] = Ok files
with_entries blocks inodes files n (e ∷ es) =
    and_then (with_manifest_entry blocks inodes files n e) (λ more. with_entries blocks inodes more (n + 1) es)

-- the root has number 1, and the entries have 2, 3 and so on
unfoldable pub bare_files : ℕ → Files
bare_files inodes = put (free_slots inodes) 1 (bare_directory 1 1)

unfoldable pub files_made : List ManifestEntry → ℕ → ℕ → Result Files Wrong
files_made entries size inodes =
    if has_numbers size inodes then with_entries (data_blocks_of size inodes) inodes (bare_files inodes) 2 entries
    else Err Numbers
