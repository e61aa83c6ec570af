-- What becomes of images and texts in buffers.
use Rattle.std.proofs.Common.{Global, Vec}
use Rattle.std.specs.Prelude.{Err, IfErr, IfOk, List, MatchResult, Ok, OnOk, Result, length, min, ℕ, ◌/◌, ◌≡◌}
use Rattle.imagebytes.specs.Made.{MakesOf}
use Rattle.imagebytes.specs.declared.entries.EntryTold.{EntryTold}
use Rattle.imagebytes.specs.declared.making.MakingFault.{MakingFault}
use Rattle.imagecheck.specs.declared.ImageFault.{ImageFault}
use Rattle.imagecheck.specs.declared.rules.Summary.{Summary}
use Rattle.imagecheck.specs.Faults.{Denies, Tells}
use Rattle.imagerules.specs.Places.{files_in}
use Rattle.image_files.specs.Opened.{IsFileOf, IsPut}
use Rattle.image_files.specs.declared.directory.ListingFault.{ListingFault}
use Rattle.image_files.specs.declared.opening_fault.OpeningFault.{OpeningFault}
use Rattle.migrate.specs.Copies.{IsBroken, Overfills}
use Rattle.migrate.specs.declared.fault.MigrateFault.{MigrateFault}
use Rattle.migrate.specs.declared.fault.MigrateFault.TheVariants as migrate
use Rattle.c_images.specs.Copied.{copied}
use Rattle.assembly_texts.specs.Told.{IsTold}
use Rattle.assembly_texts.specs.declared.telling.Told.{Told}
use Rattle.std.specs.declared.alloc.AllocError.{AllocError}
use Rattle.unixmodel.specs.Assembly as the
use Rattle.unixmodel.specs.Files.{Files}
use Rattle.unixmodel.specs.Formats.{format}
use Rattle.unixmodel.specs.Image.{Denotes, DenotesSmall, inodes_in, named_blocks, numbers_in_use, size_in}
use Rattle.c_images.specs.Faults.{image_number, listing_number, making_number, memory_number, migrate_number}
use Rattle.c_images.specs.Faults.{opening_number}
use Rattle.c_images.specs.Texts.{TellsText, assembled_told, expanded_number, expanded_put, file_put, report_put}
use Rattle.c_images.specs.Texts.{text_number}
use Rattle.c_images.specs.declared.summaries.SummaryTold.{SummaryTold}
use Rattle.c_images.specs.declared.texts.AssembledTold.{AssembledTold}
use Rattle.c_images.specs.declared.texts.ExpandedTold.{ExpandedTold}
use Rattle.c_images.specs.declared.texts.TextFault.{TextFault}

-- the number of an answer: 0, or that of its fault
abbrev pub number_of : {X F : Type 0} → (F → ℕ) → Result X F → ℕ
number_of f (Ok x) = 0
number_of f (Err fault) = f fault

-- bytes are copied, as many as there is room for, unless there is a fault
abbrev pub bytes_put : {F : Type 0} → Result (Vec ℕ Global) F → List ℕ → List ℕ
bytes_put (Ok bytes) old = copied bytes.items old
bytes_put (Err fault) old = old

-- how many they are, unless there is a fault
abbrev pub count_put : {F : Type 0} → Result (Vec ℕ Global) F → ℕ → ℕ
count_put (Ok bytes) old = length bytes.items
count_put (Err fault) old = old

-- what an image uses, unless there is a fault
abbrev pub summary_put : Result Summary ImageFault → SummaryTold → SummaryTold
summary_put (Ok s) old = record { inodes = s.inodes; blocks = s.blocks }
summary_put (Err fault) old = old

-- the bytes of an answer, which is so, come to a buffer, and this is the answer's number
abbrev pub Copies : {F : Type 0} → (F → ℕ) → (Result (Vec ℕ Global) F → Type 0) → List ℕ → List ℕ → ℕ → Type 0
Copies {F} f Told old new number = (answer : Result (Vec ℕ Global) F) × (number ≡ number_of f answer)
    × (new ≡ bytes_put answer old) × Told answer

-- as many blocks as there is room for
abbrev pub blocks_for : ℕ → ℕ
blocks_for room = min (room / 1024) 0xffffffff

abbrev pub MakeTells : List EntryTold → List ℕ → ℕ → List ℕ → List ℕ → ℕ → Type 0
MakeTells entries bytes inodes old new number =
    Copies making_number (MakesOf entries bytes (blocks_for (length old)) inodes) old new number

-- what an image uses, or its fault
pub record IsChecked (image : List ℕ) (answer : Result Summary ImageFault) : Type 0 where
  pub denotes : OnOk answer (Denotes image (files_in image))
  pub inodes : IfOk answer (λ s. s.inodes ≡ length (numbers_in_use image))
  pub blocks : IfOk answer (λ s. s.blocks ≡ length (named_blocks image))
  pub fault : IfErr answer (Tells format image)
  pub refused : IfErr answer (Denies (Denotes image))

abbrev pub CheckTells : List ℕ → SummaryTold → SummaryTold → ℕ → Type 0
CheckTells image old new number = (answer : Result Summary ImageFault) × (number ≡ number_of image_number answer)
    × (new ≡ summary_put answer old) × IsChecked image answer

-- the bytes of an answer are copied, and how many they are is put
abbrev pub Counts : {F : Type 0} → (F → ℕ) → (Result (Vec ℕ Global) F → Type 0) → List ℕ → List ℕ → ℕ → ℕ → ℕ → Type 0
Counts f Told old new count counted number =
    Copies f (λ answer. (counted ≡ count_put answer count) × Told answer) old new number

abbrev pub ListTells : List ℕ → List ℕ → ℕ → ℕ → ℕ → Type 0
ListTells old new count counted number = Counts listing_number (λ answer. Unit {0}) old new count counted number

abbrev pub LocationTells : List ℕ → List ℕ → ℕ → ℕ → ℕ → Type 0
LocationTells old new count counted number = Counts memory_number (λ answer. Unit {0}) old new count counted number

abbrev pub GetTells : List ℕ → List ℕ → List ℕ → List ℕ → ℕ → ℕ → ℕ → Type 0
GetTells image path old new count counted number =
    Counts opening_number (λ answer. IfOk answer (λ bytes. IsFileOf image path bytes.items)) old new count counted
    number

-- an image of as many bytes in which the file has been put
abbrev pub IsPutOver : List ℕ → List ℕ → List ℕ → List ℕ → Type 0
IsPutOver image path bytes left = IsPut image path bytes left × (length left ≡ length image)

abbrev pub PutTells : List ℕ → List ℕ → List ℕ → List ℕ → ℕ → Type 0
PutTells path bytes old new number =
    Copies opening_number (λ answer. IfOk answer (λ left. IsPutOver old path bytes left.items)) old new number

-- the image denotes the files of the old one, or there is a fault
pub record IsMigrated (old : List ℕ) (answer : Result (Vec ℕ Global) MigrateFault) : Type 0 where
  pub migrated : IfOk answer (λ new. (files : Files) → DenotesSmall old files → Denotes new.items files)
  pub source : OnOk answer ((files : Files) × DenotesSmall old files)
  pub size : IfOk answer (λ new. size_in new.items ≡ size_in old)
  pub inodes : IfOk answer (λ new. inodes_in new.items ≡ inodes_in old)
  pub image : (fault : ImageFault) → answer ≡ Err (migrate.Image fault) → IsBroken old fault
  pub blocks : answer ≡ Err migrate.Blocks → Overfills old

abbrev pub MigrateTells : List ℕ → List ℕ → ℕ → Type 0
MigrateTells old new number = Copies migrate_number (IsMigrated old) old new number

-- ---- assembly texts

-- the file is that of the text, or there is a fault of the text
pub record IsAssembled (bytes : List ℕ) (answer : Result (Vec ℕ Global) TextFault) : Type 0 where
  pub made : IfOk answer (λ file. the.assembled bytes ≡ Ok file.items)
  pub refused : IfErr answer (TellsText bytes)

abbrev pub AsmTells : List ℕ → List ℕ → List ℕ → AssembledTold → ℕ → Type 0
AsmTells bytes old new told number =
    Copies text_number (λ answer. (told ≡ assembled_told answer) × IsAssembled bytes answer) old new number

-- the file is that of a text which `asm` takes; it and the report are copied, and how many bytes they have is put
pub record AsTells (old new before after : List ℕ) (told tells : ExpandedTold) (number : ℕ) : Type 0 where
  pub answer : Result Told AllocError
  pub numbers : number ≡ expanded_number answer
  pub file : new ≡ file_put answer old
  pub report : after ≡ report_put answer before
  pub counts : tells ≡ expanded_put answer told
  pub made : IfOk answer IsTold
