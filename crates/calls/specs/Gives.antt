-- What a step of the kernel returns.
use Rattle.blockdev.specs.declared.DeviceFault.{DeviceFault}
use Rattle.console.specs.Output.{AppendsBeginning}
use Rattle.calls.specs.declared.halt.Halt.{Halt}
use Rattle.calls.specs.declared.halt.Halt.TheVariants.{Console, Device, Halted, InitEnded}
use Rattle.kernel.specs.Disk.{IsLost, IsServed}
use Rattle.kernel.specs.Kernel.{Kernel, current, state_of}
use Rattle.std.specs.Io.KnownBytes.{Appends}
use Rattle.std.specs.Prelude.{Err, List, None, Ok, Option, Result, Some, [], ℕ, ℤ, ◌≡◌}
use Rattle.tree.specs.Tree.{FileTree}
use Rattle.unixmodel.specs.Failures.{Rises}
use Rattle.unixmodel.specs.Calls.{After}
use Rattle.unixmodel.specs.Next.{execute_at}
use Rattle.unixmodel.specs.State.{process_at}

-- the kernel's state is the one that is made, it halts so, and its bytes were printed
pub record Makes (new : Kernel) (a : After) (before after : Option (List ℕ)) (halted : Option ℤ) : Type 0 where
  pub state : state_of new ≡ a.state
  pub halts : a.state.halted ≡ halted
  pub printed : Appends before after a.bytes

-- the state is the one that is made, and its bytes were printed
pub record IsMade (new : Kernel) (a : After) (before after : Option (List ℕ)) : Type 0 where
  pub state : state_of new ≡ a.state
  pub printed : Appends before after a.bytes

-- what a call that makes `a` returns; rising: the console's count of failures rose
abbrev pub Dispatches : {X : Type 0} → Kernel → After → Option (List ℕ) → Option (List ℕ) → Type 0 → Result X Halt
    → Type 0
Dispatches new a before after rising (Ok x) = IsMade new a before after
Dispatches new a before after rising (Err (InitEnded status)) = ⊥
Dispatches new a before after rising (Err Console) = rising × AppendsBeginning before after a.bytes
-- an access of the device has failed, and nothing is on the console
Dispatches new a before after rising (Err Device) = Appends before after []
Dispatches new a before after rising (Err Halted) = ⊥

-- the result where the state halts so
abbrev pub halt_of : Option ℤ → Result (Unit {0}) Halt
halt_of None = Ok tt
halt_of (Some status) = Err (InitEnded status)

-- the same, after a part of the step that returned this
abbrev pub halt_after : Result (Unit {0}) DeviceFault → Option ℤ → Result (Unit {0}) Halt
halt_after (Ok done) halted = halt_of halted
halt_after (Err fault) halted = Err Device

-- what a step that makes `a` returns; rising: the console's count of failures rose
abbrev pub EventGives : Kernel → After → Option (List ℕ) → Option (List ℕ) → Type 0 → Result (Unit {0}) Halt → Type 0
EventGives new a before after rising (Ok u) = Makes new a before after None
EventGives new a before after rising (Err (InitEnded status)) = Makes new a before after (Some status)
EventGives new a before after rising (Err Console) = rising × AppendsBeginning before after a.bytes
EventGives new a before after rising (Err Device) = Appends before after []
EventGives new a before after rising (Err Halted) = ⊥

-- the same where the bytes go to an output: the bytes that it took, and how often it failed, are read off it
abbrev pub DispatchesTo : {W X : Type 0} → (W → Option (List ℕ)) → (W → ℕ) → Kernel → W → W → After → Result X Halt
    → Type 0
DispatchesTo contents failures new from to a result =
    Dispatches new a (contents from) (contents to) (Rises (failures from) (failures to)) result

abbrev pub EventGivesTo : {W : Type 0} → (W → Option (List ℕ)) → (W → ℕ) → Kernel → W → W → After
    → Result (Unit {0}) Halt → Type 0
EventGivesTo contents failures new from to a result =
    EventGives new a (contents from) (contents to) (Rises (failures from) (failures to)) result

-- what the instruction at the pc of the running process makes
abbrev pub executed : Kernel → After
executed k = execute_at (state_of k) (current k) (process_at (state_of k) (current k))

-- ---- the files of the disk

-- what an event with this result leaves of the files of the disk
abbrev pub LeavesTree : {X : Type 0} → FileTree → FileTree → Result X Halt → Type 0
LeavesTree old new (Ok x) = IsServed old new
LeavesTree old new (Err (InitEnded status)) = IsServed old new
LeavesTree old new (Err Device) = IsLost old new
LeavesTree old new (Err Console) = new ≡ old
LeavesTree old new (Err Halted) = new ≡ old
