-- How a session at a keyboard ends, and what it leaves.
use Rattle.std.specs.Prelude.{Bool, List, None, Option, Some, [], length, min, ℕ, ◌++◌, ◌∷◌, ◌≡◌, ◌⊎◌}
use Rattle.std.specs.Int.NonZero.{non_zero_u64_get}
use Rattle.std.specs.declared.num.NonZeroU64.{NonZeroU64}
use Rattle.driver.specs.Sessions.{GaveFirst, session}
use Rattle.driver.specs.declared.terminal.Given.{Given}
use Rattle.driver.specs.declared.terminal.Given.TheVariants as given
use Rattle.events.specs.Records.{Kept, Records}
use Rattle.host.specs.declared.report.End.{End}
use Rattle.host.specs.declared.report.End.TheVariants.{Halted, Running}
use Rattle.machine.specs.View.{View}
use Rattle.run_commands.specs.Runs.{Leaves, PlaysOut}
use Rattle.run_commands.specs.declared.sessions.Sat.{Sat}
use Rattle.unixmodel.specs.declared.event.Event.{Event}

-- these are all events of a session, or a beginning of them where it ended otherwise than at the keyboard
abbrev pub AreOf : List Event → List Event → End → Type 0
AreOf events all Running = events ≡ all
AreOf events all (Halted why) = (rest : List Event) × (events ++ rest ≡ all)

-- a session that runs on was left at the keyboard, or it was asked as often as a counter goes
abbrev pub IsLeft : List Given → End → Type 0
IsLeft gave Running = ((before : List Given) × (gave ≡ before ++ given.End ∷ []))
    ⊎ (length gave ≡ 0xffff_ffff_ffff_ffff)
IsLeft gave (Halted why) = Unit {0}

-- a machine was given the events of a session, and just these are recorded; with what is written out
pub record SitsOut (quantum : ℕ) (gives later : Option (List Given)) (kept keeps : Option Kept)
    (old new : View) (before after : Option (List ℕ)) (end : End) : Type 0 where
  pub gave : List Given
  pub first : GaveFirst gives gave later
  pub events : List Event
  pub follows : AreOf events (session quantum old.state gave) end
  pub records : Records kept keeps events
  pub left : IsLeft gave end
  pub plays : PlaysOut old new events before after end

-- the same, and what it leaves once it is saved
pub record IsSat {D : Type 0} (content : D → List (List ℕ)) (identity : D → List ℕ) (count : D → ℕ) (quantum : ℕ)
    (gives later : Option (List Given)) (kept keeps : Option Kept) (old : View)
    (before after : Option (List ℕ)) (saves : Bool) (end : End) (disk : Option D) : Type 0 where
  pub last : View
  pub ended : End
  pub sits : SitsOut quantum gives later kept keeps old last before after ended
  pub leaves : Leaves content identity count old sits.events before after saves end disk

-- ---- the same, read off an output that has the bytes and a terminal that has the events

abbrev pub SitsOutTo : {W R : Type 0} → (W → Option (List ℕ)) → (R → Option (List Given)) → (R → Option Kept) → ℕ → R
    → R → View → View → W → W → End → Type 0
SitsOutTo contents gives kept quantum before after old new out left end =
    SitsOut quantum (gives before) (gives after) (kept before) (kept after) old new (contents out) (contents left) end

abbrev pub SatTo : {D R W : Type 0} → (D → List (List ℕ)) → (D → List ℕ) → (D → ℕ) → (W → Option (List ℕ))
    → (R → Option (List Given)) → (R → Option Kept) → ℕ → R → View → W → Bool → Sat D R W → Type 0
SatTo content identity count contents gives kept quantum before old out saves sat =
    IsSat content identity count quantum (gives before) (gives sat.terminal) (kept before) (kept sat.terminal) old
    (contents out) (contents sat.stdout) saves sat.end sat.disk

-- how many steps there are between two ticks, where the words say so, and where they don't
abbrev pub quantum_in : Option NonZeroU64 → ℕ
quantum_in None = 10000
quantum_in (Some n) = min (non_zero_u64_get n) 1000000000
