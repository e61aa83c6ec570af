-- The entries of a manifest that lines ask for.
use Rattle.std.specs.Prelude.{IfSome, List, Option, Some, get_or, if◌then◌else◌, length, min, nat_le, take, ℕ}
use Rattle.std.specs.Prelude.{◌*◌, ◌+◌, ◌<◌, ◌≡◌}
use Rattle.host.specs.Files.{HostFiles}
use Rattle.events.specs.declared.manifest.Line.{Line}
use Rattle.events.specs.declared.manifest.Line.TheVariants as line
use Rattle.imagemake.specs.Makers.{HasEntries}
use Rattle.imagemake.specs.declared.maker.Maker.{Maker}
use Rattle.unixmodel.specs.Manifest.{ManifestEntry, Thing}
use Rattle.unixmodel.specs.Manifest.Thing.{Bytes, Folder, Special}

-- the first bytes of a host's file, that many at most, where that is known
abbrev pub AreFirst : ℕ → List ℕ → Option HostFiles → List ℕ → Type 0
AreFirst most name held bytes =
    IfSome held (λ files. (file : List ℕ) × (files name ≡ Some file) × (bytes ≡ take most file))

abbrev pub path_of : Line → List ℕ
path_of (line.Directory path) = path.now
path_of (line.File path name) = path.now
path_of (line.Device path major minor) = path.now

-- what is put at a line's path: a file has the first bytes of the host's file
abbrev pub IsThingOf : ℕ → Option HostFiles → Line → Thing → Type 0
IsThingOf most held (line.Directory path) thing = thing ≡ Folder
IsThingOf most held (line.File path name) thing =
    (bytes : List ℕ) × (thing ≡ Bytes bytes) × AreFirst most name.now held bytes
IsThingOf most held (line.Device path major minor) thing = thing ≡ Special major minor

abbrev pub IsEntryOf : ℕ → Option HostFiles → Line → ManifestEntry → Type 0
IsEntryOf most held line entry = (entry.path ≡ path_of line) × IsThingOf most held line entry.thing

-- how many bytes the blocks of an image of this size have, and how many bytes are read of a file for it
abbrev pub space_of : ℕ → ℕ
space_of size = if nat_le size 131072 then 1024 * size else 0

abbrev pub most_of : ℕ → ℕ
most_of size = min 67382272 (space_of size) + 1

-- the manifest that lines say, for an image of this size: an entry for each
pub record IsManifestOf (size : ℕ) (held : Option HostFiles) (lines : List Line) (entries : List ManifestEntry)
    : Type 0 where
  pub each : (i : ℕ) (line : Line) (entry : ManifestEntry) → i < length entries
      → IsEntryOf (most_of size) held (get_or lines i line) (get_or entries i entry)
  pub whole : length entries ≡ length lines

-- an image in the making has the entries of that manifest
pub record HasManifest (size inodes : ℕ) (held : Option HostFiles) (lines : List Line) (maker : Maker) : Type 0 where
  pub entries : List ManifestEntry
  pub all : IsManifestOf size held lines entries
  pub has : HasEntries size inodes entries maker
