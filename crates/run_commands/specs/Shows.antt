-- What a performance gives a machine, how it ends, and what it leaves.
use Rattle.std.specs.Prelude.{Bool, IfOk, List, None, OnOk, Option, Result, Some, [], is_none, is_some, option_map}
use Rattle.std.specs.Prelude.{true, ℕ, ◌&&◌, ◌≡◌, ◌⊎◌}
use Rattle.std.specs.Int.NonZero.{non_zero_u64_get}
use Rattle.std.specs.declared.num.NonZeroU64.{NonZeroU64}
use Rattle.blockdev.specs.Disk.{Failing, count_of}
use Rattle.calls.specs.declared.halt.Halt.{Halt}
use Rattle.calls.specs.declared.halt.Halt.TheVariants.{Console}
use Rattle.commandline.specs.declared.jobs.Run.{Run}
use Rattle.driver.specs.Driven.{IsDriven, Printed, halts}
use Rattle.driver.specs.Pacing.{Follows}
use Rattle.driver.specs.Plays.{Plays}
use Rattle.driver.specs.Spots.{Spot}
use Rattle.driver.specs.declared.play.Unreached.{Unreached}
use Rattle.events.specs.Records.{Kept, Records}
use Rattle.events.specs.Scripts.{script_events}
use Rattle.host.specs.Reports.{end_of}
use Rattle.host.specs.declared.report.End.{End}
use Rattle.host.specs.declared.report.End.TheVariants.{Halted}
use Rattle.imagerules.specs.Content.{image_of}
use Rattle.machine.specs.Booted.{IsBooted, IsUnbooted}
use Rattle.machine.specs.View.{View}
use Rattle.machine.specs.declared.fault.BootFault.{BootFault}
use Rattle.events.specs.Places.{first_place}
use Rattle.events.specs.declared.clock.Clock.TheVariants.{Off}
use Rattle.run_commands.specs.Runs.{Leaves, PlaysOut}
use Rattle.run_commands.specs.declared.finish.Finish.{Finish}
use Rattle.run_commands.specs.declared.finish.InVain.{InVain}
use Rattle.run_commands.specs.declared.performing.FlatShow.{FlatShow}
use Rattle.run_commands.specs.declared.performing.Performed.{Performed}
use Rattle.run_commands.specs.declared.performing.Piece.{Piece}
use Rattle.run_commands.specs.declared.performing.Piece.TheVariants.{Play, Script}
use Rattle.run_commands.specs.declared.performing.Show.{Show}
use Rattle.unixmodel.specs.Start.{start_flat}
use Rattle.unixmodel.specs.declared.event.Event.{Event}

-- ---- the events of a piece

-- those that it gives a machine at `s`: a play's up to a line that waits in vain; where the machine halts, a beginning
abbrev pub PieceGives : Piece → Spot → Option Unreached → Result (Unit {0}) Halt → List Event → Type 0
PieceGives (Script commands) s vain r events = (vain ≡ None) × Follows (script_events commands.now) r events
PieceGives (Play play) s vain r events = Plays 0xffff_ffff_ffff_ffff play.now.acts.items first_place s vain r events

-- a machine was given just these
pub record IsPieceGiven (piece : Piece) (s : Spot) (old new : View) (from to : Printed)
    (kept keeps : Option Kept) (result : Result (Option Unreached) Halt) : Type 0 where
  pub vain : Option Unreached
  pub driven : IsDriven (PieceGives piece s vain) old new from to kept keeps (halts result)
  pub told : IfOk result (λ unreached. unreached ≡ vain)

-- all events of a script, those after a halt, too; or those that a play gave
abbrev pub all_of : Piece → List Event → List Event
all_of (Script commands) events = script_events commands.now
all_of (Play play) events = events

-- ---- what is printed, recorded and left

-- what is known of a record of events and of an output, before and after
pub record Noted : Type 0 where
  pub kept : Option Kept
  pub keeps : Option Kept
  pub before : Option (List ℕ)
  pub after : Option (List ℕ)

-- a machine that had printed nothing was given the events of a piece, and just these are recorded; with what is written
-- out. `unreached` is what a line waited for in vain
pub record PlayedOut (piece : Piece) (noted : Noted) (old new : View) (end : End) (unreached : Option Unreached)
    : Type 0 where
  pub events : List Event
  pub ended : Result (Unit {0}) Halt
  pub vain : Option Unreached
  pub wanted : PieceGives piece
      (record { state = old.state; shown = option_map (λ bytes. []) noted.before; clock = Off }) vain ended events
  pub told : OnOk ended (unreached ≡ vain)
  pub ends : (end ≡ Halted Console) ⊎ (end ≡ end_of ended true)
  pub records : Records noted.kept noted.keeps events
  pub plays : PlaysOut old new (all_of piece events) noted.before noted.after end

-- the same, and what it leaves once it is saved: not where a play waited in vain
pub record IsPerformed {D : Type 0} (content : D → List (List ℕ)) (identity : D → List ℕ) (count : D → ℕ)
    (piece : Piece) (noted : Noted) (first : View) (saves : Bool) (end : End) (unreached : Option Unreached)
    (disk : Option D) : Type 0 where
  pub last : View
  pub ended : End
  pub plays : PlayedOut piece noted first last ended unreached
  pub leaves : Leaves content identity count first (all_of piece plays.events) noted.before noted.after
      (saves && is_none unreached) end disk

-- a machine boots from the disk, and a performance on it leaves this
pub record IsImageRun {D : Type 0} (content : D → List (List ℕ)) (identity : D → List ℕ) (count : D → ℕ) (disk : D)
    (frames : ℕ) (piece : Piece) (noted : Noted) (saves : Bool) (end : End) (unreached : Option Unreached)
    (left : Option D) : Type 0 where
  pub first : View
  pub booted : IsBooted (image_of (content disk)) (identity disk) (count disk) frames first
  pub performed : IsPerformed content identity count piece noted first saves end unreached left

-- ---- an access of the disk that fails

-- what identifies a disk of which one access fails, and its count of failures
abbrev pub failing_identity : {D : Type 0} → (D → List ℕ) → Failing D → List ℕ
failing_identity identity failing = identity failing.device

abbrev pub failing_count : {D : Type 0} → (D → ℕ) → Failing D → ℕ
failing_count count failing = count_of failing.left (count failing.device)

-- a machine boots from the disk with its n-th access failing, and a performance on it leaves this
pub record IsFailingRun {D : Type 0} (content : D → List (List ℕ)) (identity : D → List ℕ) (count : D → ℕ) (n : ℕ)
    (disk : D) (frames : ℕ) (piece : Piece) (noted : Noted) (saves : Bool) (end : End) (unreached : Option Unreached)
    (left : Option D) : Type 0 where
  -- the disk of which an access fails, as it is left
  pub failing : Option (Failing D)
  pub inner : option_map (λ (d : Failing D). d.device) failing ≡ left
  pub runs : IsImageRun (λ (d : Failing D). content d.device) (failing_identity identity) (failing_count count)
      (record { device = disk; left = n }) frames piece noted saves end unreached failing

-- the same with an access that fails, or with none
abbrev pub IsRunWith : {D : Type 0} → (D → List (List ℕ)) → (D → List ℕ) → (D → ℕ) → Option NonZeroU64 → D → ℕ
    → Piece → Noted → Bool → End → Option Unreached → Option D → Type 0
IsRunWith content identity count None disk frames piece noted saves end unreached left =
    IsImageRun content identity count disk frames piece noted saves end unreached left
IsRunWith content identity count (Some n) disk frames piece noted saves end unreached left =
    IsFailingRun content identity count (non_zero_u64_get n) disk frames piece noted saves end unreached left

-- why no machine boots from the disk
abbrev pub IsUnbootedWith : {D : Type 0} → (D → List ℕ) → (D → ℕ) → Option NonZeroU64 → D → List ℕ → ℕ → BootFault
    → Type 0
IsUnbootedWith identity count None disk image frames fault = IsUnbooted identity count disk image frames fault
IsUnbootedWith identity count (Some n) disk image frames fault =
    IsUnbooted (failing_identity identity) (failing_count count) (record { device = disk; left = non_zero_u64_get n })
    image frames fault

-- ---- a flat program

-- a machine boots a flat program, and the events of a script end so
pub record IsFlatRun (program : List ℕ) (frames : ℕ) (events : List Event) (before after : Option (List ℕ)) (end : End)
    : Type 0 where
  pub first : View
  pub last : View
  pub booted : start_flat program frames ≡ Some first.state
  pub ended : PlaysOut first last events before after end

-- ---- the same of what a performance is given and returns

abbrev pub unreached_of : Finish → Option Unreached
unreached_of finish = option_map (λ (v : InVain). v.unreached) finish.in_vain

-- read off an output that has the bytes and a keeper that has the events, before and after
abbrev pub noted_by : {W R : Type 0} → (W → Option (List ℕ)) → (R → Option Kept) → R → R → W → W → Noted
noted_by contents kept keeper keeps out left =
    record { kept = kept keeper; keeps = kept keeps; before = contents out; after = contents left }

abbrev pub PlaysOutTo : {W R : Type 0} → (W → Option (List ℕ)) → (R → Option Kept) → Piece → R → R → View
    → View → W → W → End → Option Unreached → Type 0
PlaysOutTo contents kept piece keeper keeps old new out left end unreached =
    PlayedOut piece (noted_by contents kept keeper keeps out left) old new end unreached

abbrev pub Performs : {D W R : Type 0} → (D → List (List ℕ)) → (D → List ℕ) → (D → ℕ) → (W → Option (List ℕ))
    → (R → Option Kept) → View → Show → R → W → Performed D R W → Type 0
Performs content identity count contents kept first show keeper out performed =
    IsPerformed content identity count show.piece
    (noted_by contents kept keeper performed.keeper out performed.stdout) first (is_some show.words.now.save)
    performed.finish.end (unreached_of performed.finish) performed.disk

abbrev pub Shows : {D W R : Type 0} → (D → List (List ℕ)) → (D → List ℕ) → (D → ℕ) → (W → Option (List ℕ))
    → (R → Option Kept) → D → Show → R → W → Performed D R W → Type 0
Shows content identity count contents kept disk show keeper out performed =
    IsImageRun content identity count disk show.words.now.frames show.piece
    (noted_by contents kept keeper performed.keeper out performed.stdout) (is_some show.words.now.save)
    performed.finish.end (unreached_of performed.finish) performed.disk

abbrev pub ShowsWith : {D W R : Type 0} → (D → List (List ℕ)) → (D → List ℕ) → (D → ℕ) → (W → Option (List ℕ))
    → (R → Option Kept) → D → Show → R → W → Performed D R W → Type 0
ShowsWith content identity count contents kept disk show keeper out performed =
    IsRunWith content identity count show.words.now.fail disk show.words.now.frames show.piece
    (noted_by contents kept keeper performed.keeper out performed.stdout) (is_some show.words.now.save)
    performed.finish.end (unreached_of performed.finish) performed.disk

abbrev pub RefusesWith : {D : Type 0} → (D → List (List ℕ)) → (D → List ℕ) → (D → ℕ) → D → Run → BootFault → Type 0
RefusesWith content identity count disk words fault =
    IsUnbootedWith identity count words.fail disk (image_of (content disk)) words.frames fault

abbrev pub FlatRuns : {W : Type 0} → (W → Option (List ℕ)) → FlatShow → W → End × W → Type 0
FlatRuns contents show out ran =
    IsFlatRun show.program.now show.frames (script_events show.script.now) (contents out) (contents ran.1) ran.0
