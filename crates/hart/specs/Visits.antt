-- What a run needs and leaves, of one page and of all.
use Rattle.std.specs.Prelude.{IfNone, IfSome, List, Option, Some, length, ℕ, ◌*◌, ◌+◌, ◌-◌, ◌/◌, ◌<◌, ◌≡◌, ◌≤◌}
use Rattle.unixmodel.specs.declared.trap.Access.TheVariants.{Fetch}
use Rattle.unixmodel.specs.declared.trap.Trap.{Trap}
use Rattle.unixmodel.specs.Translation.{Held, HoldsInside}
use Rattle.sv39.specs.Mapping.{Mapped, frame_for}
use Rattle.hart.specs.Acts.{IsLive, KeepsLive, goes_to, trap_of}
use Rattle.hart.specs.Checked.{AreChecked, AreNow, StayLive}
use Rattle.hart.specs.Runs.{GoesOn, MovesOn, StaysWhole, point_at, point_of}
use Rattle.hart.specs.Stops.{EndsAt, IsBehind, IsClear, pc_at}
use Rattle.hart.specs.declared.act.Next.{Next}
use Rattle.hart.specs.declared.page.Page.{Page}
use Rattle.hart.specs.declared.state.Hart.{Hart}

-- words of a part are those of its frame, from one to an end, and what is held lies in the memory
pub record MayGo (held : Held) (ram : List (List ℕ)) (f : ℕ) (frames : List ℕ) (page : Page) (part from end : ℕ)
    : Type 0 where
  pub inside : HoldsInside held ram
  pub since : 64 * part ≤ from
  pub some : from < end
  pub within : end ≤ 64 * part + 64
  pub below : end ≤ 1024
  pub live : IsLive frames f
  pub now : AreNow page.words ram f from end

-- Operations of the page at `base` are done, `done` of them from an index on, and no further than to an end.
pub record GoesAlong (held held' : Held) (f : ℕ) (frames : List ℕ) (base from end : ℕ) (old new : Hart)
    (ram ram' : List (List ℕ)) (done : ℕ) (next : Next) : Type 0 where
  pub goes : (mapping : List Mapped) (stops : List ℕ) → frame_for mapping (base / 4096) Fetch ≡ Some f
      → IsClear stops base from (from + done)
      → GoesOn held held' old.root.0 mapping stops (point_at old (pc_at base from) ram)
      (point_at new (goes_to (pc_at base (from + done)) next) ram') done (trap_of next)
  pub words : KeepsLive next frames ram ram'
  pub whole : StaysWhole held' old new ram ram'
  pub within : from + done ≤ end
  pub moves : MovesOn (end - from) done next

-- a frame has a page that is known, and what is held lies in the memory
pub record MayVisit (held : Held) (ram : List (List ℕ)) (f : ℕ) (frames : List ℕ) (page : Page) : Type 0 where
  pub inside : HoldsInside held ram
  pub frame : f < length ram
  pub live : IsLive frames f
  pub checked : AreChecked page.words ram f page.parts

-- Instructions of a frame's page are done, up to a stop or a trap, and `rest` of `count` are left. What is known of
-- pages still holds.
pub record Visits (held held' : Held) (stops : List ℕ) (page : Page) (f : ℕ) (frames frames' : List ℕ) (old new : Hart)
    (ram ram' : List (List ℕ)) (count rest : ℕ) (stopped : Option Trap) : Type 0 where
  pub checked : AreChecked page.words ram' f page.parts
  pub others : StayLive f frames frames' ram ram'
  pub goes : (mapping : List Mapped) → frame_for mapping (old.pc / 4096) Fetch ≡ Some f
      → GoesOn held held' old.root.0 mapping stops (point_of old ram) (point_of new ram') (count - rest) stopped
  pub whole : StaysWhole held' old new ram ram'
  pub within : rest ≤ count
  pub fewer : IfNone stopped (rest < count)
  pub trap : IfSome stopped (λ t. 0 < rest)
  pub behind : IfSome stopped (λ t. IsBehind stops (count - rest) old.pc new.pc)

-- `done` of `count` instructions are done, up to a stop or a trap
pub record RunsOn (held held' : Held) (stops : List ℕ) (old new : Hart) (ram ram' : List (List ℕ)) (count done : ℕ)
    (stopped : Option Trap) : Type 0 where
  pub goes : (mapping : List Mapped)
      → GoesOn held held' old.root.0 mapping stops (point_of old ram) (point_of new ram') done stopped
  pub whole : StaysWhole held' old new ram ram'
  pub within : done ≤ count
  pub ends : IfNone stopped (EndsAt stops count done new.pc)
  pub trap : IfSome stopped (λ t. done < count)
  pub behind : IfSome stopped (λ t. IsBehind stops done old.pc new.pc)
