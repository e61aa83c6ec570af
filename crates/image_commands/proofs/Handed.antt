-- What is read of a host's files, and what the commands make of it.
use Rattle.std.specs.Prelude.{Err, IfOk, IfSome, Ok, OnOk, Result}
use Rattle.std.proofs.Common.{ap, arith, inl, inr, length, List, None, Option, refl, Some, subst, sym, take, ℕ}
use Rattle.std.proofs.Common.{◌%◌, ◌∙◌, ◌≡◌, ◌≤◌}
use Rattle.std.proofs.lemmas.Bool.Decides.{leb_tells}
use Rattle.std.proofs.lemmas.List.{length-take, take_all}
use Rattle.blockdev.specs.Blocks.{blocks_of}
use Rattle.commandline.specs.declared.jobs.Asm.{Asm}
use Rattle.commandline.specs.declared.jobs.Check.{Check}
use Rattle.commandline.specs.declared.jobs.Get.{Get}
use Rattle.commandline.specs.declared.jobs.Ls.{Ls}
use Rattle.commandline.specs.declared.jobs.Migrate.{Migrate}
use Rattle.commandline.specs.declared.jobs.Mkfs.{Mkfs}
use Rattle.commandline.specs.declared.jobs.Put.{Put}
use Rattle.host.specs.Files.{Holds, HoldsFront, HostFiles, IsFront, Writes, with_file}
use Rattle.host.specs.Fronts.{IsWhole}
use Rattle.host.specs.declared.host.Front.{Front}
use Rattle.image_commands.specs.Entries.{HasManifest}
use Rattle.image_commands.specs.Handed.{AssemblesIn, Checks, GetsIn, HoldsDisk, HoldsFile, IsRead, IsUsed, Known}
use Rattle.image_commands.specs.Handed.{Lists, MakesIn, MigratesIn, PutsIn}
use Rattle.imagecheck.specs.declared.rules.Summary.{Summary}
use Rattle.imagemake.specs.Makers.{IsImageOf}
use Rattle.imagemake.specs.declared.maker.Maker.{Maker}
use Rattle.imagerules.specs.Content.{image_of}
use Rattle.imagerules.proofs.Spelling.{image_of-blocks}
use Rattle.image_files.specs.Listed.{IsDirectoryOf}
use Rattle.image_files.specs.Opened.{IsFileOf, IsPut}
use Rattle.events.specs.Lines.{AreSaid, lines_of}
use Rattle.events.specs.Manifests.{IsLine}
use Rattle.events.specs.declared.manifest.Line.{Line}
use Rattle.unixmodel.specs.Assembly as the
use Rattle.unixmodel.specs.Files.{Files}
use Rattle.unixmodel.specs.Formats.{Format}
use Rattle.unixmodel.specs.Image.{Denotes, DenotesIn, DenotesSmall}

-- the bytes of a front are those of its file, or a beginning
pub read-of : (most : ℕ) (front : Front) (file bytes : List ℕ) → IsFront most front file
    → (IsWhole front → bytes ≡ front.bytes.items) → ((IsWhole front → ⊥) → length bytes ≤ 2048) → IsRead bytes file
read-of most front file bytes is whole cut = go front.length refl is.length where
  go : (told : Option ℕ) → front.length ≡ told → IfSome told (λ n. n ≡ length file) → IsRead bytes file
  go None none long = inr (cut (λ here. cc (sym none ∙ here)))
  go (Some n) some long = elim (leb_tells (length file) most) [
    | inl all ↦ let same = is.first ∙ take_all most file all.1 in
        inl (whole (some ∙ ap Some (long ∙ ap length (sym same))) ∙ same)
    | inr part ↦ inr (cut (λ here.
        let count : n ≡ length front.bytes.items = cc (sym some ∙ here) in
        absurd (omega (arith, long, count, ap length is.first, length-take most file, part.1))))
  ]

-- an image denotes files, so more than two blocks of it were read: all of it
all-read : (f : Format) (bytes file : List ℕ) (files : Files) → IsRead bytes file → DenotesIn f bytes files
    → bytes ≡ file
all-read f bytes file files (inl same) is = same
all-read f bytes file files (inr few) is = absurd (omega (arith, few, is.super.whole, is.super.size_least))

-- the disk of an image that denotes files is the whole image
is-image : (f : Format) (disk file : List ℕ) (files : Files) → length disk % 1024 ≡ 0 → IsRead disk file
    → DenotesIn f (image_of (blocks_of disk)) files → image_of (blocks_of disk) ≡ file
is-image f disk file files whole read denotes =
    let same = image_of-blocks disk whole in
    same ∙ all-read f disk file files read (subst (λ b. DenotesIn f b files) same denotes)

-- a file that is read on the disk of an image is one of the image
pub file-in : (words : Get) (disk bytes : List ℕ) (held : Option HostFiles) → length disk % 1024 ≡ 0
    → HoldsDisk words.image.now disk held → IsFileOf (image_of (blocks_of disk)) words.path.now bytes
    → HoldsFile words bytes held
file-in words disk bytes None whole has is = tt
file-in words disk bytes (Some files) whole has is =
    let same = is-image _ disk has.0 is.files whole has.2 is.denotes in
    (has.0, has.1, subst (λ b. IsFileOf b words.path.now bytes) same is)

-- what a check of the disk tells is told of the image
pub checks-in : (words : Check) (disk : List ℕ) (summary : Summary) (held : Option HostFiles) → length disk % 1024 ≡ 0
    → HoldsDisk words.image.now disk held → IsUsed (image_of (blocks_of disk)) summary → Checks words summary held
checks-in words disk summary None whole has is = tt
checks-in words disk summary (Some files) whole has is =
    let same = is-image _ disk has.0 is.files whole has.2 is.denotes in
    (has.0, has.1, subst (λ b. IsUsed b summary) same is)

-- a directory on the disk is one on the image
pub lists-in : (words : Ls) (disk : List ℕ) (held : Option HostFiles) → length disk % 1024 ≡ 0
    → HoldsDisk words.image.now disk held → IsDirectoryOf (image_of (blocks_of disk)) words.path.now → Lists words held
lists-in words disk None whole has is = tt
lists-in words disk (Some files) whole has is =
    let same = is-image _ disk has.0 is.files whole has.2 is.denotes in
    (has.0, has.1, subst (λ b. IsDirectoryOf b words.path.now) same is)

-- the disk of what was read of an image
holds-disk : (most : ℕ) (front : Front) (name bytes : List ℕ) (held : Option HostFiles)
    → HoldsFront name most front held → (IsWhole front → bytes ≡ front.bytes.items)
    → ((IsWhole front → ⊥) → length bytes ≤ 2048) → HoldsDisk name bytes held
holds-disk most front name bytes None has whole cut = tt
holds-disk most front name bytes (Some files) has whole cut =
    (has.0, has.1, read-of most front has.0 bytes has.2 whole cut)

pub disk-of : {D F : Type 0} (bytes_of : D → List ℕ) (most : ℕ) (front : Front) (name : List ℕ)
    (held : Option HostFiles) → HoldsFront name most front held
    → (r : Result D F) → IfOk r (λ d. IsWhole front → bytes_of d ≡ front.bytes.items)
    → IfOk r (λ d. (IsWhole front → ⊥) → length (bytes_of d) ≤ 2048) → IfOk r (λ d. HoldsDisk name (bytes_of d) held)
disk-of bytes_of most front name held has (Ok d) whole cut = holds-disk most front name (bytes_of d) held has whole cut
disk-of bytes_of most front name held has (Err fault) whole cut = tt

-- ---- what the host is handed, where it is known what its names hold

handed : (relation : HostFiles → HostFiles → Type 0) (name bytes : List ℕ) (held new : Option HostFiles)
    → Writes name bytes held new
    → ((files : HostFiles) → held ≡ Some files → relation files (with_file files name bytes)) → Known relation held new
handed relation name bytes None new writes step = tt
handed relation name bytes (Some files) new writes step =
    subst (λ n. Known relation (Some files) n) (sym writes) (step files refl)

pub gets-in : (words : Get) (name bytes : List ℕ) (held new : Option HostFiles) → HoldsFile words bytes held
    → Writes name bytes held new → Known (GetsIn words name) held new
gets-in words name bytes held new has writes = handed (GetsIn words name) name bytes held new writes (λ files known.
    let here : HoldsFile words bytes (Some files) = subst (λ h. HoldsFile words bytes h) known has in
    record { image = here.0; found = here.1; bytes = bytes; file = here.2; handed = refl })

pub puts-in : (words : Put) (disk left : List ℕ) (front : Front) (held new : Option HostFiles)
    → length disk % 1024 ≡ 0 → length left % 1024 ≡ 0
    → HoldsDisk words.image.now disk held → HoldsFront words.file.now 67382273 front held
    → IsPut (image_of (blocks_of disk)) words.path.now front.bytes.items (image_of (blocks_of left))
    → Writes words.image.now left held new → Known (PutsIn words) held new
puts-in words disk left front held new whole last has fronts put writes =
    let path = words.path.now in
    handed (PutsIn words) words.image.now left held new writes (λ files known.
    let here : HoldsDisk words.image.now disk (Some files) = subst (λ h. HoldsDisk words.image.now disk h) known has in
    let first : HoldsFront words.file.now 67382273 front (Some files) =
    subst (λ h. HoldsFront words.file.now 67382273 front h) known fronts in
    let image = is-image _ disk here.0 put.files whole here.2 put.denotes in
    let ends =
    subst (λ b. IsPut (image_of (blocks_of disk)) path front.bytes.items b) (image_of-blocks left last) put in
    let taken = subst (λ b. IsPut (image_of (blocks_of disk)) path b left) first.2.first ends in
    record {
      image = here.0;
      found = here.1;
      bytes = first.0;
      file = first.1;
      left = left;
      put = subst (λ b. IsPut b path (take 67382273 first.0) left) image taken;
      handed = refl;
    })

pub migrates-in : (words : Migrate) (old made : List ℕ) (front : Front) (most : ℕ) (held new : Option HostFiles)
    → HoldsFront words.old.now most front held → ((file : List ℕ) → IsFront most front file → IsRead old file)
    → ((files : Files) × DenotesSmall old files) → ((files : Files) → DenotesSmall old files → Denotes made files)
    → Writes words.new.now made held new → Known (MigratesIn words) held new
migrates-in words old made front most held new fronts read source denotes writes =
    let name = words.old.now in
    handed (MigratesIn words) words.new.now made held new writes (λ files known.
    let first : HoldsFront name most front (Some files) = subst (λ h. HoldsFront name most front h) known fronts in
    let same = all-read _ old first.0 source.0 (read first.0 first.2) source.1 in
    record {
      image = first.0;
      found = first.1;
      made = made;
      files = source.0;
      source = subst (λ b. DenotesSmall b source.0) same source.1;
      denotes = denotes source.0 source.1;
      handed = refl;
    })

pub makes-in : (words : Mkfs) (text : List ℕ) (lines : List Line) (maker : Maker) (image : List ℕ)
    (held new : Option HostFiles) → AreSaid IsLine (lines_of text) lines
    → HasManifest words.size words.inodes held lines maker → IsImageOf maker image
    → Writes words.image.now image held new → Known (MakesIn words text) held new
makes-in words text lines maker image held new said has is writes =
    handed (MakesIn words text) words.image.now image held new writes (λ files known.
    let here = subst (λ h. HasManifest words.size words.inodes h lines maker) known has in
    record {
      lines = lines;
      said = said;
      entries = here.entries;
      all = here.all;
      image = image;
      made = is _ _ here.entries here.has;
      handed = refl;
    })

pub assembles-in : (words : Asm) (text file : List ℕ) (held new : Option HostFiles) → Holds words.text.now text held
    → the.assembled text ≡ Ok file → Writes words.elf.now file held new → Known (AssemblesIn words) held new
assembles-in words text file held new has assembled writes =
    handed (AssemblesIn words) words.elf.now file held new writes (λ files known. record {
      text = text;
      found = subst (λ h. Holds words.text.now text h) known has;
      file = file;
      assembled = assembled;
      handed = refl;
    })

-- ---- what is sent is what was made, and nothing was written before

pub writes-as : (name sent bytes : List ℕ) (before held new : Option HostFiles) → sent ≡ bytes → before ≡ held
    → Writes name sent before new → Writes name bytes held new
writes-as name sent bytes before held new is same writes =
    subst (λ h. Writes name bytes h new) same (subst (λ b. Writes name b before new) is writes)

pub put-as : (image way path sent bytes left : List ℕ) → way ≡ path → sent ≡ bytes → IsPut image way sent left
    → IsPut image path bytes left
put-as image way path sent bytes left here is put =
    subst (λ p. IsPut image p bytes left) here (subst (λ b. IsPut image way b left) is put)

pub file-as : (image way path bytes : List ℕ) → way ≡ path → IsFileOf image way bytes → IsFileOf image path bytes
file-as image way path bytes here is = subst (λ p. IsFileOf image p bytes) here is

pub told : {T E : Type 0} {P : Type 0} (r : Result T E) → P → OnOk r P
told (Ok x) p = p
told (Err e) p = tt
