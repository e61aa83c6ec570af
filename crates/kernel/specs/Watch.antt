-- Who a turn need not look at, and who is woken.
use Rattle.std.specs.Prelude.{Bool, List, None, Option, Some, [], false, true, ℕ, ℤ, ◌||◌, ◌∷◌, ◌≡◌}
use Rattle.kernel.specs.Kernel.{Kernel}
use Rattle.kernel.specs.Ready.{awaited_in, has_slept, seen}
use Rattle.kernel.specs.declared.channels.Channel.{Channel}
use Rattle.kernel.specs.declared.channels.Channel.TheVariants.{Bytes, Children, Ticks}
use Rattle.files.specs.Places.{opens_of}
use Rattle.proc.specs.declared.process.Process.{Process}
use Rattle.proc.specs.declared.waits.WaitKind.{WaitKind}
use Rattle.proc.specs.declared.waits.WaitKind.TheVariants.{Child, Time, Transfer}
use Rattle.proc.specs.Mask.{is_in}
use Rattle.proc.specs.Places.{Places, exited}
use Rattle.kernel.specs.Whole.{with_space}
use Rattle.spaces.specs.Spaces.{no_pages}
use Rattle.unixmodel.specs.declared.call.Call.{Call}
use Rattle.unixmodel.specs.declared.call.Call.TheVariants.{Read, Sleep, Wait, Write}
use Rattle.unixmodel.specs.declared.process.Mode.{Mode}
use Rattle.unixmodel.specs.declared.process.Mode.TheVariants.{Ready, Running, Waiting, Zombie}
use Rattle.unixmodel.specs.declared.process.Pending.{Pending}
use Rattle.unixmodel.specs.Files.{put, slot}
use Rattle.unixmodel.specs.State.{State, holds}
use Rattle.unixmodel.specs.Turn.{can_go_on}

-- ---- channels

-- whether a pending call waits on a channel; a sleep does where its time is over
abbrev pub waits_in : Channel → Pending → Call → Bool
waits_in (Ticks now) w Sleep = has_slept now w
waits_in (Ticks now) w _ = false
waits_in Bytes w Read = true
waits_in Bytes w Write = true
waits_in Bytes w _ = false
waits_in Children w Wait = true
waits_in Children w _ = false

abbrev pub waits_as : Channel → Mode → Bool
waits_as c Running = false
waits_as c Ready = false
waits_as c (Waiting w) = waits_in c w w.number
waits_as c (Zombie status) = false

abbrev pub waits_on : Channel → Process → Bool
waits_on c p = waits_as c p.mode

-- what those who wait on a channel wait for
abbrev pub kind_of : Channel → WaitKind
kind_of (Ticks now) = Time
kind_of Bytes = Transfer
kind_of Children = Child

-- the slots that were awake, and those whose processes pass, are awake
unfoldable pub roused : (Process → Bool) → List (Option Process) → List Bool → List Bool
roused test [] awake = awake
roused test (o ∷ os) [] = []
roused test (o ∷ os) (b ∷ bs) = (holds test o || b) ∷ roused test os bs

-- who waits on a channel is awake
abbrev pub woken_by : Channel → Places → Places
woken_by c t = record t { awake = roused (waits_on c) t.places t.awake }

-- a process goes back to its slot, and has ended; whoever may wait for that is awake
abbrev pub ended_in : Places → ℕ → Process → ℤ → Places
ended_in t at process status =
    woken_by Bytes (woken_by Children (exited (record t { places = put t.places at process }) at status))

-- ---- who is asleep

-- a process waits, is not killed, and can't go on; or it has ended
abbrev pub IsAsleepAs : State → List (Option Process) → Process → Mode → Type 0
IsAsleepAs a places p Running = ⊥
IsAsleepAs a places p Ready = ⊥
IsAsleepAs a places p (Waiting w) = (p.killed ≡ false)
    × (can_go_on (seen a places) (with_space no_pages p) w w.number ≡ false)
IsAsleepAs a places p (Zombie status) = Unit {0}

abbrev pub IsAsleep : State → List (Option Process) → Option Process → Type 0
IsAsleep a places None = Unit {0}
IsAsleep a places (Some p) = IsAsleepAs a places p p.mode

-- the process of each slot that isn't awake is asleep; a: what pending calls read beside the processes
pub record IsWatched (a : State) (places : List (Option Process)) (awake : List Bool) : Type 0 where
  pub asleep : (j : ℕ) → is_in awake j ≡ false → IsAsleep a places (slot places j)

abbrev pub awaited_of : Kernel → State
awaited_of k = awaited_in (opens_of k.files) k.spaces.pipes k.console k.ticks

abbrev pub Watches : Kernel → Type 0
Watches k = IsWatched (awaited_of k) k.table.places k.table.awake
