-- Runs over a host's files: the script and the image are those of the files that the words name.
use Rattle.std.specs.Prelude.{List, None, Option, Some, [], is_some, length, ℕ, ◌*◌, ◌+◌, ◌∷◌, ◌≡◌, ◌≢◌, ◌≤◌}
use Rattle.std.specs.declared.num.NonZeroU64.{NonZeroU64}
use Rattle.blockdev.specs.Blocks.{blocks_of}
use Rattle.blockdev.specs.Disk.{Disk}
use Rattle.calls.specs.declared.halt.Halt.TheVariants.{Device}
use Rattle.commandline.specs.declared.jobs.Live.{Live}
use Rattle.commandline.specs.declared.jobs.Run.{Run}
use Rattle.driver.specs.declared.terminal.Given.{Given}
use Rattle.events.specs.Records.{Kept}
use Rattle.host.specs.Files.{Holds, HoldsFront, HostFiles, Writes}
use Rattle.host.specs.Fronts.{IsWhole}
use Rattle.host.specs.declared.host.Front.{Front}
use Rattle.host.specs.declared.report.End.{End}
use Rattle.host.specs.declared.report.End.TheVariants.{Halted}
use Rattle.imagerules.specs.Content.{image_of}
use Rattle.machine.specs.Booted.{IsBooted}
use Rattle.machine.specs.View.{View}
use Rattle.run_commands.specs.Seats.{IsSat, quantum_in}
use Rattle.run_commands.specs.Shows.{IsRunWith, RefusesWith, ShowsWith, unreached_of}
use Rattle.run_commands.specs.declared.finish.Finish.{Finish}
use Rattle.run_commands.specs.declared.performing.Performed.{Performed}
use Rattle.run_commands.specs.declared.performing.Piece.{Piece}
use Rattle.run_commands.specs.declared.performing.Piece.TheVariants.{Play, Script}
use Rattle.run_commands.specs.declared.performing.Show.{Show}
use Rattle.machine.specs.declared.fault.BootFault.{BootFault}
use Rattle.events.specs.Commands.{IsCommand}
use Rattle.events.specs.Lines.{AreSaid, lines_of}
use Rattle.events.specs.PlayTexts.{IsPlayOf}

-- ---- a disk in memory

abbrev pub disk_content : Disk → List (List ℕ)
disk_content d = blocks_of d.bytes

abbrev pub disk_identity : Disk → List ℕ
disk_identity d = length d.bytes ∷ []

-- none of its accesses fails
abbrev pub disk_failures : Disk → ℕ
disk_failures d = 0

-- a performance on the machine that boots from it
abbrev pub MemoryShows : {W R : Type 0} → (W → Option (List ℕ)) → (R → Option Kept) → Disk → Show → R → W
    → Performed Disk R W → Type 0
MemoryShows contents kept disk show keeper out performed =
    ShowsWith disk_content disk_identity disk_failures contents kept disk show keeper out performed

abbrev pub MemoryRefuses : Disk → Run → BootFault → Type 0
MemoryRefuses disk words fault = RefusesWith disk_content disk_identity disk_failures disk words fault

-- the same, of which nothing is recorded
abbrev pub RunsUnrecorded : Disk → Run → Piece → Option (List ℕ) → Option (List ℕ) → Finish → Option Disk → Type 0
RunsUnrecorded disk words piece before after finish left =
    IsRunWith disk_content disk_identity disk_failures words.fail disk words.frames piece
    (record { kept = None; keeps = None; before = before; after = after }) (is_some words.save) finish.end
    (unreached_of finish) left

-- ---- files

-- how much of an image is read: a byte more than the longest has
abbrev pub most_of_image : ℕ
most_of_image = 1024 * 131072 + 1

-- what a text says as a script, and what as a play
abbrev pub IsSaid : List ℕ → Piece → Type 0
IsSaid text (Script commands) = AreSaid IsCommand (lines_of text) commands.now
IsSaid text (Play play) = IsPlayOf text play.now.acts.items

-- the disk is the image's file, or is cut where that is too long to be one
pub record IsDiskOf (front : Front) (disk : Disk) : Type 0 where
  pub whole : IsWhole front → disk.bytes ≡ front.bytes.items
  pub cut : (IsWhole front → ⊥) → length disk.bytes ≤ 2048

-- an access of a disk in memory fails only where the words ask for that
abbrev pub IsMemoryEnd : Option NonZeroU64 → End → Type 0
IsMemoryEnd None end = end ≢ Halted Device
IsMemoryEnd (Some n) end = Unit {0}

-- a run on the machine of an image, of which no more was read than shows that it is too long
pub record RunsFront (front : Front) (words : Run) (piece : Piece) (before after : Option (List ℕ)) (finish : Finish)
    (left : Option Disk) : Type 0 where
  pub disk : Disk
  pub made : IsDiskOf front disk
  pub runs : RunsUnrecorded disk words piece before after finish left
  pub sound : IsMemoryEnd words.fail finish.end

-- what was read before a machine boots is what the files hold that the words name
pub record IsRead (held : Option HostFiles) (words : Run) (front : Front) (piece : Piece) : Type 0 where
  pub text : List ℕ
  pub image : HoldsFront words.image.now most_of_image front held
  pub script : Holds words.script.now text held
  pub said : IsSaid text piece

-- a run of what these files hold
pub record RunsFiles (held : Option HostFiles) (words : Run) (before after : Option (List ℕ)) (finish : Finish)
    (left : Option Disk) : Type 0 where
  pub front : Front
  pub piece : Piece
  pub read : IsRead held words front piece
  pub runs : RunsFront front words piece before after finish left

-- the same, whatever becomes of the disk that is left
abbrev pub PlaysFiles : Option HostFiles → Run → Option (List ℕ) → Option (List ℕ) → Finish → Type 0
PlaysFiles held words before after finish = (left : Option Disk) × RunsFiles held words before after finish left

-- a machine boots from an image
pub record BootsFront (front : Front) (frames : ℕ) (first : View) : Type 0 where
  pub disk : Disk
  pub made : IsDiskOf front disk
  pub booted : IsBooted (image_of (disk_content disk)) (disk_identity disk) (disk_failures disk) frames first

-- the image that is left is written where it is to be saved
abbrev pub IsKept : Option (List ℕ) → Option (List ℕ) → Option HostFiles → Option HostFiles → Type 0
IsKept (Some name) (Some bytes) old new = Writes name bytes old new
IsKept _ _ old new = new ≡ old

-- a session at a keyboard on the machine of the image that a file holds: an access of its disk doesn't fail
pub record LivesOn (held : Option HostFiles) (words : Live) (before after : Option (List ℕ)) (end : End) : Type 0 where
  pub front : Front
  pub image : HoldsFront words.image.now most_of_image front held
  pub first : View
  pub booted : BootsFront front words.frames first
  pub gives : Option (List Given)
  pub later : Option (List Given)
  pub kept : Option Kept
  pub keeps : Option Kept
  pub left : Option Disk
  pub sat : IsSat disk_content disk_identity disk_failures (quantum_in words.quantum) gives later kept keeps first
      before after (is_some words.save) end left
  pub sound : end ≢ Halted Device
