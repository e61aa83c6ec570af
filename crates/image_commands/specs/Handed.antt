-- What the commands on images hand to a host.
use Rattle.std.specs.Prelude.{IfSome, List, None, Ok, Option, Some, length, take, ℕ, ◌≡◌, ◌≤◌, ◌⊎◌}
use Rattle.std.specs.Borrow.{Bor}
use Rattle.commandline.specs.declared.jobs.Asm.{Asm}
use Rattle.commandline.specs.declared.jobs.Check.{Check}
use Rattle.commandline.specs.declared.jobs.Get.{Get}
use Rattle.commandline.specs.declared.jobs.Ls.{Ls}
use Rattle.commandline.specs.declared.jobs.Migrate.{Migrate}
use Rattle.commandline.specs.declared.jobs.Mkfs.{Mkfs}
use Rattle.commandline.specs.declared.jobs.Put.{Put}
use Rattle.host.specs.Files.{HostFiles, with_file}
use Rattle.image_commands.specs.Entries.{IsManifestOf}
use Rattle.imagecheck.specs.declared.rules.Summary.{Summary}
use Rattle.imagemake.specs.Making.{MakesImage}
use Rattle.events.specs.Lines.{AreSaid, lines_of}
use Rattle.events.specs.Manifests.{IsLine}
use Rattle.events.specs.declared.manifest.Line.{Line}
use Rattle.image_files.specs.Listed.{IsDirectoryOf}
use Rattle.image_files.specs.Opened.{IsFileOf, IsPut}
use Rattle.unixmodel.specs.Assembly as the
use Rattle.unixmodel.specs.Files.{Files}
use Rattle.unixmodel.specs.Image.{Denotes, DenotesSmall, named_blocks, numbers_in_use}
use Rattle.unixmodel.specs.Manifest.{ManifestEntry}

-- what holds of a host's files before and after, where it is known what they hold
abbrev pub Known : (HostFiles → HostFiles → Type 0) → Option HostFiles → Option HostFiles → Type 0
Known relation None new = Unit {0}
Known relation (Some old) None = ⊥
Known relation (Some old) (Some new) = relation old new

-- these are the bytes of a file; of one that is too long they are fewer than any image has
abbrev pub IsRead : List ℕ → List ℕ → Type 0
IsRead bytes file = (bytes ≡ file) ⊎ (length bytes ≤ 2048)

-- the disk is that of the image of this name, where that is known
abbrev pub HoldsDisk : List ℕ → List ℕ → Option HostFiles → Type 0
HoldsDisk name disk held = IfSome held (λ files. (image : List ℕ) × (files name ≡ Some image) × IsRead disk image)

-- on the image the path reaches a file of these bytes
abbrev pub HoldsFile : Get → List ℕ → Option HostFiles → Type 0
HoldsFile words bytes held =
    IfSome held (λ files. (image : List ℕ) × (files words.image.now ≡ Some image) × IsFileOf image words.path.now bytes)

-- `get`: a file of this name has the bytes of the file that the path reaches
pub record GetsIn (words : Get) (name : List ℕ) (old new : HostFiles) : Type 0 where
  pub image : List ℕ
  pub found : old words.image.now ≡ Some image
  pub bytes : List ℕ
  pub file : IsFileOf image words.path.now bytes
  pub handed : new ≡ with_file old name bytes

abbrev pub Gets : Get → Option HostFiles → Option HostFiles → Bor (List ℕ) → Type 0
Gets words old new name = Known (GetsIn words name.now) old new

-- `put`: the image is the old one, in which the file that the path reaches has the bytes of the host's file; one
-- that is too long for any file is cut a byte after the longest, and so refused
pub record PutsIn (words : Put) (old new : HostFiles) : Type 0 where
  pub image : List ℕ
  pub found : old words.image.now ≡ Some image
  pub bytes : List ℕ
  pub file : old words.file.now ≡ Some bytes
  pub left : List ℕ
  pub put : IsPut image words.path.now (take 67382273 bytes) left
  pub handed : new ≡ with_file old words.image.now left

-- `mkfs`: the image has the entries of the manifest's lines
pub record MakesIn (words : Mkfs) (text : List ℕ) (old new : HostFiles) : Type 0 where
  pub lines : List Line
  pub said : AreSaid IsLine (lines_of text) lines
  pub entries : List ManifestEntry
  pub all : IsManifestOf words.size (Some old) lines entries
  pub image : List ℕ
  pub made : MakesImage entries words.size words.inodes image
  pub handed : new ≡ with_file old words.image.now image

-- `migrate`: the new image denotes the files of the old one
pub record MigratesIn (words : Migrate) (old new : HostFiles) : Type 0 where
  pub image : List ℕ
  pub found : old words.old.now ≡ Some image
  pub made : List ℕ
  pub files : Files
  pub source : DenotesSmall image files
  pub denotes : Denotes made files
  pub handed : new ≡ with_file old words.new.now made

-- `check`: the image denotes files, which use as many inodes and blocks
pub record IsUsed (image : List ℕ) (summary : Summary) : Type 0 where
  pub files : Files
  pub denotes : Denotes image files
  pub inodes : summary.inodes ≡ length (numbers_in_use image)
  pub blocks : summary.blocks ≡ length (named_blocks image)

abbrev pub Checks : Check → Summary → Option HostFiles → Type 0
Checks words summary held =
    IfSome held (λ files. (image : List ℕ) × (files words.image.now ≡ Some image) × IsUsed image summary)

-- `ls`: on the image the path reaches a directory
abbrev pub Lists : Ls → Option HostFiles → Type 0
Lists words held = IfSome held
    (λ files. (image : List ℕ) × (files words.image.now ≡ Some image) × IsDirectoryOf image words.path.now)

-- `asm`: the program's file is that of the text
pub record AssemblesIn (words : Asm) (old new : HostFiles) : Type 0 where
  pub text : List ℕ
  pub found : old words.text.now ≡ Some text
  pub file : List ℕ
  pub assembled : the.assembled text ≡ Ok file
  pub handed : new ≡ with_file old words.elf.now file
