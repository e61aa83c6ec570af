-- The image of the console alone, and its files in use.
use Rattle.mount.proofs.Common.{Err, List, Ok, Result, length, replicate, ℕ, ◌%◌, ◌∙◌, ◌≡◌, ap, arith, refl, subst, sym}
use Rattle.mount.proofs.Common.{Files, find, free_slots, lookup, parts, place_of, Denotes, inodes_in, size_in, Wrong}
use Rattle.mount.proofs.Common.{added, bare_files, data_blocks_of, files_made, with_entries, with_manifest_entry}
use Rattle.mount.proofs.Common.{flat_files, image_of, MakesImage, Refuses, image_of-blocks, IsFlat, IsFlatImage}
use Rattle.mount.proofs.Common.{IsMounted, IsUnmounted, console_manifest, FileTree}
use Rattle.blockdev.specs.Blocks as device
use Rattle.unixmodel.specs.Counts.{blocks_of}
use Rattle.imagecheck.specs.declared.ImageFault.{ImageFault}
use Rattle.imagecheck.specs.declared.ImageFault.TheVariants as fault
use Rattle.imagemake.specs.declared.manifest.MakeFault.{MakeFault}
use Rattle.imagemake.specs.declared.manifest.MakeFault.TheVariants.{Blocks, Inodes, Name, NoMemory, Numbers, Parent}
use Rattle.imagemake.specs.declared.manifest.MakeFault.TheVariants.{Twice}

files_made-console : files_made console_manifest 32 16 ≡ Ok flat_files
unfolding files_made with_entries with_manifest_entry bare_files added free_slots blocks_of flat_files lookup place_of
    parts find
files_made-console = refl

-- ---- its making

same-files : (a b : Files) → ◌≡◌ {A = Result Files Wrong} (Ok a) (Ok b) → a ≡ b
same-files a b e = cc

pub IsFlatImage-made : (image : List ℕ) → MakesImage console_manifest 32 16 image → IsFlatImage image
IsFlatImage-made image makes = record {
  denotes = subst (Denotes image) (same-files _ flat_files (sym makes.made ∙ files_made-console)) makes.denotes;
  whole = makes.whole;
}

not-wrong : (w : Wrong) → files_made console_manifest 32 16 ≡ Err w → ⊥
not-wrong w h = let e : ◌≡◌ {A = Result Files Wrong} (Ok flat_files) (Err w) = sym files_made-console ∙ h in cc

-- it is refused only where there is no memory
pub not-refused : (f : MakeFault) → Refuses (files_made console_manifest 32 16) f → (f ≡ NoMemory → ⊥) → ⊥
not-refused Name h other = not-wrong Wrong.Name h
not-refused Twice h other = not-wrong Wrong.Twice h
not-refused Blocks h other = not-wrong Wrong.Blocks h
not-refused Inodes h other = not-wrong Wrong.Inodes h
not-refused Parent h other = not-wrong Wrong.Parent h
not-refused Numbers h other = not-wrong Wrong.Numbers h
not-refused NoMemory h other = other refl

-- ---- its mount

pub Denotes-disk : (bytes image : List ℕ) → bytes ≡ image → IsFlatImage image
    → Denotes (image_of (device.blocks_of bytes)) flat_files
Denotes-disk bytes image e flat =
    let whole = flat.whole in
    let long : length bytes % 1024 ≡ 0 = omega (arith, ap length e) in
    subst (λ b. Denotes b flat_files) (sym (image_of-blocks _ long ∙ e)) flat.denotes

-- on a device that never fails it is refused only where there is no memory
pub not-unmounted : {D : Type 0} {identity : D → List ℕ} {disk : D} (image : List ℕ) (files : Files) (f : ImageFault)
    → Denotes image files → IsUnmounted identity (λ _. 0) disk image f → (f ≡ fault.NoMemory → ⊥) → ⊥
not-unmounted image files fault.Device d u other = let rises = (u.failed refl).1.rises in absurd (omega arith)
not-unmounted image files fault.NoMemory d u other = other refl
not-unmounted image files f d u other = u.none tt files d

length-flat : length flat_files ≡ 16
unfolding flat_files free_slots
length-flat = refl

pub IsFlat-mounted : (bytes image : List ℕ) {identity : List ℕ} (failures : ℕ) (tree : FileTree) → bytes ≡ image
    → IsFlatImage image → IsMounted (image_of (device.blocks_of bytes)) identity failures tree → IsFlat tree
IsFlat-mounted bytes image failures tree e flat mounted =
    let disk = image_of (device.blocks_of bytes) in
    let d = Denotes-disk bytes image e flat in
    let whole = d.super.whole in
    let long = flat.whole in
    let same : length disk ≡ length image = ap length (image_of-blocks bytes (omega (arith, ap length e)) ∙ e) in
    let size : size_in disk ≡ 32 = omega arith in
    let inodes : inodes_in disk ≡ 16 = sym d.count ∙ length-flat in
    record {
      files = sym (mounted.only flat_files d);
      rules = mounted.rules;
      linked = mounted.linked;
      holds = mounted.holds ∙ ap (λ n. replicate n 0) inodes;
      limit = mounted.limit ∙ ap (λ s. data_blocks_of s (inodes_in disk)) size ∙ ap (data_blocks_of 32) inodes;
      up = mounted.up;
    }
