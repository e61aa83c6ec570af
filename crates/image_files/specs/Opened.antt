-- Files of an image, taken out or put in.
use Rattle.std.specs.Prelude.{List, None, Some, [], ℕ, ◌≡◌, ◌⊎◌}
use Rattle.tree.specs.Entering.{made_in}
use Rattle.unixmodel.specs.FileCalls.{with_file}
use Rattle.unixmodel.specs.Files.{Files, find, slot}
use Rattle.unixmodel.specs.Files.Node.{File}
use Rattle.unixmodel.specs.Image.{Denotes}

-- the number is that of a file of these bytes
pub record HasBytes (files : Files) (n : ℕ) (bytes : List ℕ) : Type 0 where
  pub links : ℕ
  pub here : slot files n ≡ Some (File links bytes)

-- in the image's files the path reaches a file of these bytes
pub record IsFileOf (image path bytes : List ℕ) : Type 0 where
  pub files : Files
  pub denotes : Denotes image files
  pub number : ℕ
  pub found : find files 1 path ≡ Some number
  pub has : HasBytes files number bytes

-- where the path reaches nothing an empty file is made as the calls make one
abbrev pub IsBegun : Files → List ℕ → Files → Type 0
IsBegun files path begun = (begun ≡ files)
    ⊎ ((find files 1 path ≡ None)
    × ((n : ℕ) × (made_in files 1 path (File 1 []) ≡ Some (record { files = begun; number = n }))))

-- the file has these bytes instead of its own
pub record HasPut (files : Files) (n : ℕ) (bytes : List ℕ) (new : Files) : Type 0 where
  pub links : ℕ
  pub old : List ℕ
  pub here : slot files n ≡ Some (File links old)
  pub put : new ≡ with_file files n links bytes

-- the file that the path reaches, which is made where there is none, has these bytes
pub record IsPutIn (files : Files) (path bytes : List ℕ) (new : Files) : Type 0 where
  pub begun : Files
  pub begins : IsBegun files path begun
  pub number : ℕ
  pub found : find begun 1 path ≡ Some number
  pub has : HasPut begun number bytes new

-- the files of the one image with that file put in are those of the other
pub record IsPut (image path bytes left : List ℕ) : Type 0 where
  pub files : Files
  pub denotes : Denotes image files
  pub new : Files
  pub puts : IsPutIn files path bytes new
  pub leaves : Denotes left new
