-- What a call of the running process makes of the state, once it has begun, and what the kernel's function for it
-- promises.
use Rattle.std.specs.Io.KnownBytes.{Appends}
use Rattle.std.specs.Prelude.{Err, List, false, None, Ok, Option, Result, Some, [], negsuc, slice_index, ℕ, ◌%◌, ◌∷◌}
use Rattle.std.specs.Prelude.{◌≡◌}
use Rattle.std.specs.Int.{cast_signed, cast_unsigned, w32}
use Rattle.blockdev.specs.declared.DeviceFault.{DeviceFault}
use Rattle.calls.specs.declared.halt.Halt.{Halt}
use Rattle.calls.specs.declared.halt.Halt.TheVariants.{Console, Device, Halted, InitEnded}
use Rattle.calls.specs.declared.outcome.Came.{Came}
use Rattle.calls.specs.declared.outcome.Came.TheVariants.{Answers, Blocks, Exits, KillsItself, Refuses}
use Rattle.kernel.specs.Disk.{IsLost, IsServed}
use Rattle.kernel.specs.Kernel.{Kernel, argument, current, descriptors_at, state_of}
use Rattle.kernel.specs.Sound.{IsAwaiting, IsKernel, IsPending}
use Rattle.console.specs.Output.{AppendsBeginning}
use Rattle.spaces.specs.Spaces.{view_at}
use Rattle.unixmodel.specs.Calls.{After, call, call_of, end_at, goes_on, outcome_of, quiet, settle}
use Rattle.unixmodel.specs.declared.call.Call.{Call}
use Rattle.unixmodel.specs.declared.process.Mode.TheVariants.{Waiting}
use Rattle.unixmodel.specs.declared.process.Pending.{Pending}
use Rattle.unixmodel.specs.Failures.{Rises}
use Rattle.unixmodel.specs.Numbers.{low}
use Rattle.unixmodel.specs.Outcome.{Outcome, limited, minus_one}
use Rattle.unixmodel.specs.Outcome.Outcome.{Refused}
use Rattle.unixmodel.specs.Process as unix
use Rattle.unixmodel.specs.Process.{with_answer, with_mode}
use Rattle.unixmodel.specs.ProcessCalls.{marked}
use Rattle.unixmodel.specs.Reap.{reap}
use Rattle.unixmodel.specs.State.{State, change_process, process_at}

-- ---- what the abstract Unix makes of a call

-- the call of the process in a slot
abbrev pub called_by : State → ℕ → Option unix.Process → After
called_by s i None = quiet s
called_by s i (Some p) = call s i p

abbrev pub called : State → ℕ → After
called s i = called_by s i (process_at s i)

-- ---- the call of the running process

-- the process in slot i runs
pub record RunsAt (k : Kernel) (i : ℕ) : Type 0 where
  pub active : k.spaces.active ≡ Some i
  pub up : k.tree.failed ≡ false
  pub sound : IsKernel k
  pub zero : slice_index k.spaces.registers 0 ≡ 0
  pub aligned : k.spaces.pc % 4 ≡ 0

-- the process of the current slot runs
abbrev pub Runs : Kernel → Type 0
Runs k = RunsAt k (current k)

abbrev pub outcome_by : State → ℕ → Option Call → Option unix.Process → Outcome
outcome_by s i call None = Refused
outcome_by s i call (Some p) = outcome_of s i p call

-- the outcome of a call's row for the process in slot i
abbrev pub outcome_at : State → ℕ → Option Call → Outcome
outcome_at s i call = outcome_by s i call (process_at s i)

-- e is kernel k once its process i has begun its call
pub record IsBegun (k e : Kernel) (i : ℕ) : Type 0 where
  pub runs : RunsAt e i
  pub tree : e.tree ≡ k.tree
  pub row : (call : Option Call) → call_of (low (slice_index k.spaces.registers 17)) ≡ call
      → called (state_of k) i ≡ settle (state_of e) i (outcome_at (state_of e) i call)

-- the outcome of a pending call of the process in slot i as it goes on
abbrev pub going_by : State → ℕ → Pending → Option unix.Process → Outcome
going_by s i w None = Refused
going_by s i w (Some p) = goes_on s i p w w.number

abbrev pub going_at : State → ℕ → Pending → Outcome
going_at s i w = going_by s i w (process_at s i)

-- what the pending call of the running process makes as it goes on
abbrev pub gone_on : Kernel → Pending → After
gone_on k w = settle (state_of k) (current k) (going_at (state_of k) (current k) w)

-- process i has marked itself, and has its result
abbrev pub marked_by : State → ℕ → State
marked_by s i = change_process (change_process s i marked) i (with_answer 0)

-- the state once the call of process i is settled so
abbrev pub settled_by : State → ℕ → Came → State
settled_by s i (Answers value) = change_process s i (with_answer value)
settled_by s i Refuses = change_process s i (with_answer minus_one)
settled_by s i (Blocks w) = reap (change_process s i (with_mode (Waiting w)))
settled_by s i (Exits status) = end_at s i status (process_at s i)
settled_by s i KillsItself = end_at (marked_by s i) i (negsuc 0) (process_at (marked_by s i) i)

-- the call that waits, as it begins
abbrev pub pending_for : Kernel → Call → Pending
pending_for k number = record
    { number = number; args = argument k 0 ∷ argument k 1 ∷ argument k 2 ∷ []; done = 0; since = k.ticks }

-- a call may wait so
abbrev pub CanWait : Kernel → ℕ → Pending → Type 0
CanWait k i w = IsPending (descriptors_at k i) (view_at k.spaces i).memory w w.number
    × IsAwaiting k.files (descriptors_at k i) w

-- a call may end so: a status is an int
abbrev pub CanCome : Kernel → ℕ → Came → Type 0
CanCome k i (Answers value) = Unit {0}
CanCome k i Refuses = Unit {0}
CanCome k i (Blocks w) = CanWait k i w
CanCome k i (Exits status) = cast_signed w32 (cast_unsigned w32 status) ≡ status
CanCome k i KillsItself = Unit {0}

-- only a call that returns a result prints bytes
abbrev pub MayPrint : Came → List ℕ → Type 0
MayPrint (Answers value) bytes = Unit {0}
MayPrint _ bytes = bytes ≡ []

-- the process ends
abbrev pub IsEnd : Came → Type 0
IsEnd (Exits status) = Unit {0}
IsEnd KillsItself = Unit {0}
IsEnd _ = ⊥

-- the call with that outcome is done, except that it isn't settled; bytes: what it prints on the console
pub record Comes (old new : Kernel) (i : ℕ) (o : Outcome) (bytes : List ℕ) (came : Came) : Type 0 where
  pub makes : settle (state_of old) i o ≡ record { state = settled_by (state_of new) i came; bytes = bytes }
  pub active : new.spaces.active ≡ Some i
  pub sound : IsKernel new
  pub can : CanCome new i came
  pub printed : MayPrint came bytes
  pub served : IsServed old.tree new.tree

-- a call that prints nothing
abbrev pub Acts : Kernel → Kernel → ℕ → Option Call → Came → Type 0
Acts old new i call came = Comes old new i (outcome_at (state_of old) i call) [] came

-- a pending call that goes on: it prints nothing, and makes no state over its limits
pub record GoesOn (old new : Kernel) (i : ℕ) (w : Pending) (came : Came) : Type 0 where
  pub comes : Comes old new i (going_at (state_of old) i w) [] came
  pub within : limited (going_at (state_of old) i w) ≡ going_at (state_of old) i w

-- ---- where the device or the console's writer may fail

-- a call that may touch the disk, and prints nothing
abbrev pub ActsOnDisk : Kernel → Kernel → ℕ → Option Call → Result Came DeviceFault → Type 0
ActsOnDisk old new i call (Ok came) = Acts old new i call came
ActsOnDisk old new i call (Err fault) = IsLost old.tree new.tree

abbrev pub GoesOnDisk : Kernel → Kernel → ℕ → Pending → Result Came DeviceFault → Type 0
GoesOnDisk old new i w (Ok came) = GoesOn old new i w came
GoesOnDisk old new i w (Err fault) = IsLost old.tree new.tree

-- a call with that outcome; before and after: what the writer took; console: the writer's count of failures rose
abbrev pub Tries : Kernel → Kernel → ℕ → Outcome → Option (List ℕ) → Option (List ℕ) → Type 0 → Result Came Halt
    → Type 0
Tries old new i o before after console (Ok came) = (bytes : List ℕ) × Comes old new i o bytes came
    × Appends before after bytes
-- a beginning of what it prints is on the console, and the files are as they were
Tries old new i o before after console (Err Console) = console
    × AppendsBeginning before after (settle (state_of old) i o).bytes × (new.tree ≡ old.tree)
-- nothing is printed
Tries old new i o before after console (Err Device) = IsLost old.tree new.tree × Appends before after []
Tries old new i o before after console (Err (InitEnded status)) = ⊥
Tries old new i o before after console (Err Halted) = ⊥

-- the same of the running process, where the bytes go to an output
abbrev pub TriesTo : {W : Type 0} → (W → Option (List ℕ)) → (W → ℕ) → Kernel → Kernel → W → W → Outcome
    → Result Came Halt → Type 0
TriesTo contents failures old new from to o result =
    Tries old new (current old) o (contents from) (contents to) (Rises (failures from) (failures to)) result

abbrev pub CallTries : {W : Type 0} → (W → Option (List ℕ)) → (W → ℕ) → Kernel → Kernel → W → W → Option Call
    → Result Came Halt → Type 0
CallTries contents failures old new from to call result =
    TriesTo contents failures old new from to (outcome_at (state_of old) (current old) call) result

abbrev pub PendingTries : {W : Type 0} → (W → Option (List ℕ)) → (W → ℕ) → Kernel → Kernel → W → W → Pending
    → Result Came Halt → Type 0
PendingTries contents failures old new from to w result =
    TriesTo contents failures old new from to (limited (going_at (state_of old) (current old) w)) result
