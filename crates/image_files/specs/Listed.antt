-- Files at rest.
use Rattle.std.specs.Prelude.{List, Option, Some, false, suc, ℕ, ◌≡◌}
use Rattle.mount.specs.Mounted.{AreLinked}
use Rattle.name_rules.specs.Rules.{KeepsTree}
use Rattle.tree.specs.Tree.{FileTree}
use Rattle.unixmodel.specs.Files.{Entry, Files, find, slot}
use Rattle.unixmodel.specs.Files.Node.{Directory}
use Rattle.unixmodel.specs.Image.{Denotes}

pub record IsAtRest (tree : FileTree) : Type 0 where
  pub up : tree.failed ≡ false
  pub rules : KeepsTree tree.files
  pub linked : AreLinked tree.files

-- the number is a directory's
pub record IsFolder (tree : FileTree) (n : ℕ) : Type 0 where
  pub links : ℕ
  pub places : List (Option Entry)
  pub here : slot tree.files n ≡ Some (Directory (suc links) places)

-- in the image's files the path reaches a directory
pub record IsDirectoryOf (image path : List ℕ) : Type 0 where
  pub files : Files
  pub denotes : Denotes image files
  pub number : ℕ
  pub found : find files 1 path ≡ Some number
  pub links : ℕ
  pub places : List (Option Entry)
  pub here : slot files number ≡ Some (Directory (suc links) places)
