-- Directories of files at rest.
use Rattle.std.proofs.Common.{◌≡◌, ◌∙◌, ℕ, Err, IsSome, List, Ok, Option, Result, Some, ap, arith, is_some}
use Rattle.std.proofs.Common.{subst, suc, sym, zero}
use Rattle.std.specs.Prelude.{OnOk}
use Rattle.mount.specs.Mounted.{IsMounted}
use Rattle.name_rules.proofs.Finding.{find-used}
use Rattle.tree.specs.Tree.{FileTree}
use Rattle.tree.proofs.Storing.{node-of}
use Rattle.unixmodel.specs.Files.{Node, find, kind_of, slot}
use Rattle.unixmodel.specs.Files.Node.{Device, Directory, File}
use Rattle.image_files.specs.Listed.{IsAtRest, IsDirectoryOf, IsFolder}

-- ---- files at rest

-- the files of an image are
pub rests : {image identity : List ℕ} {failures : ℕ} {tree : FileTree} → IsMounted image identity failures tree
    → IsAtRest tree
rests {image} {failures} {tree} mounted = record {
  up = mounted.up;
  rules = mounted.rules;
  linked = mounted.linked;
}

-- a call that changes no file leaves them so
pub rests-kept : {old new : FileTree} → new ≡ record old { failures = new.failures } → IsAtRest old → IsAtRest new
rests-kept {old} {new} same rest =
    subst IsAtRest (sym same) (record { up = rest.up; rules = rest.rules; linked = rest.linked })

pub folder-kept : {old new : FileTree} → new ≡ record old { failures = new.failures } → (n : ℕ) → IsFolder old n
    → IsFolder new n
folder-kept {old} {new} same n folder =
    subst (λ (t : FileTree). IsFolder t n) (sym same)
    (record { links = folder.links; places = folder.places; here = folder.here })

-- ---- what a path reaches

pub reached : {tree : FileTree} → IsAtRest tree → {now : FileTree} → now ≡ record tree { failures = now.failures }
    → (path : List ℕ) (o : Option ℕ) (n : ℕ) → o ≡ find tree.files 1 path → o ≡ Some n
    → (node : Node) × (slot now.files n ≡ Some node)
reached {tree} rest {now} same path o n is some =
    let used = find-used rest.rules 1 path n (ap is_some rest.rules.root.here) (sym is ∙ some) in
    node-of (slot now.files n) (subst (λ (t : FileTree). IsSome (slot t.files n)) (sym same) used)

pub folder-of : {tree : FileTree} → IsAtRest tree → (n : ℕ) (node : Node) → slot tree.files n ≡ Some node
    → kind_of node ≡ 1 → IsFolder tree n
folder-of rest n (File links bytes) here kind = absurd (omega arith)
folder-of rest n (Device links major minor) here kind = absurd (omega arith)
folder-of rest n (Directory zero places) here kind = absurd (omega (arith, rest.linked n (Directory zero places) here))
folder-of rest n (Directory (suc links) places) here kind = record { links = links; places = places; here = here }

-- a directory that was found is one of the image
pub is-directory : {image identity : List ℕ} {failures : ℕ} {tree now : FileTree} (path : List ℕ) (n : ℕ)
    → IsMounted image identity failures tree → find tree.files 1 path ≡ Some n → now.files ≡ tree.files
    → IsFolder now n → IsDirectoryOf image path
is-directory {tree = tree} path n mounted found same folder = record {
  files = tree.files;
  denotes = mounted.denotes;
  number = n;
  found = found;
  links = folder.links;
  places = folder.places;
  here = ap (λ files. slot files n) (sym same) ∙ folder.here;
}

-- what holds anyhow holds where a call succeeds
pub if-ok : {P T E : Type 0} → P → (r : Result T E) → OnOk r P
if-ok holds (Ok x) = holds
if-ok holds (Err e) = tt
