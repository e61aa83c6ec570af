-- What a write does to a file: as many of the bytes are written as there are blocks for.
use Rattle.std.specs.Prelude.{List, None, Option, Some, if◌then◌else◌, length, nat_le, option_map, take, ℕ, ◌&&◌, ◌+◌}
use Rattle.std.specs.Prelude.{◌≡◌}
use Rattle.unixmodel.specs.Counts.{blocks_of}
use Rattle.unixmodel.specs.FileCalls.{greatest, with_file}
use Rattle.unixmodel.specs.Files.{Files, Node, longest, slot}
use Rattle.unixmodel.specs.Files.Node.{Device, Directory, File}
use Rattle.unixmodel.specs.Memory.{overwrite}

-- number n is that of a file
pub record IsFile (files : Files) (n : ℕ) : Type 0 where
  pub links : ℕ
  pub bytes : List ℕ
  pub here : slot files n ≡ Some (File links bytes)

-- the files, and how many bytes were written
pub record Written : Type 0 where
  pub files : Files
  pub count : ℕ

-- how many of the bytes there are blocks for
unfoldable pub fitting : ℕ → Files → ℕ → ℕ → ℕ → List ℕ → List ℕ → ℕ
fitting limit files n at links old new =
    greatest (λ k. nat_le (blocks_of (with_file files n links (overwrite old at (take k new)))) limit) (length new)

-- the file with the first `fit` of them
abbrev pub with_bytes : Files → ℕ → ℕ → ℕ → List ℕ → List ℕ → ℕ → Written
with_bytes files n at links old new fit =
    record { files = with_file files n links (overwrite old at (take fit new)); count = fit }

-- a write doesn't begin past the end of a file, nor make it too long
abbrev pub write_to : ℕ → Files → ℕ → ℕ → List ℕ → Option Node → Option Written
write_to limit files n at new None = None
write_to limit files n at new (Some (File links old)) =
    if nat_le at (length old) && nat_le (at + length new) longest
    then Some (with_bytes files n at links old new (fitting limit files n at links old new)) else None
write_to limit files n at new (Some (Device links major minor)) = None
write_to limit files n at new (Some (Directory links places)) = None

unfoldable pub written : ℕ → Files → ℕ → ℕ → List ℕ → Option Written
written limit files n at new = write_to limit files n at new (slot files n)

-- where nothing is written the files are as they were
abbrev pub files_after : Files → Option Written → Files
files_after files None = files
files_after files (Some w) = w.files

abbrev pub count_of : Option Written → Option ℕ
count_of o = option_map (λ (w : Written). w.count) o
