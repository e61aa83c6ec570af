-- How read and write begin, and go on with what a descriptor names. They are told apart by the end of a pipe that
-- each would use.
use Rattle.std.specs.Prelude.{Bool, List, Option, Some, is_some, length, option_map, take, ℕ, ◌≡◌}
use Rattle.std.specs.Prelude.{◌≤◌}
use Rattle.std.specs.Result.{result_ok}
use Rattle.calls.specs.Acts.{RunsAt, going_at, outcome_at}
use Rattle.calls.specs.declared.transfer_calls.Transfer.{Transfer}
use Rattle.kernel.specs.Kernel.{Kernel, descriptors_at, state_of}
use Rattle.kernel.specs.Sound.{IsFresh, IsPending, file_named}
use Rattle.files.specs.declared.file.End.{End}
use Rattle.files.specs.declared.file.End.TheVariants as end
use Rattle.files.specs.declared.file.OpenFile.{OpenFile}
use Rattle.files.specs.declared.file.Target.{Target}
use Rattle.files.specs.declared.file.Target.TheVariants as target
use Rattle.files.specs.Places.{file_at, readable_at, writable_at}
use Rattle.spaces.specs.Spaces.{view_at}
use Rattle.unixmodel.specs.declared.call.Call.{Call}
use Rattle.unixmodel.specs.declared.call.Call.TheVariants.{Read, Write}
use Rattle.unixmodel.specs.declared.process.Pending.{Pending}
use Rattle.unixmodel.specs.Files.{slot}
use Rattle.unixmodel.specs.Memory.{Memory, can_write, read_bytes}
use Rattle.unixmodel.specs.Numbers.{low}
use Rattle.unixmodel.specs.Outcome.{limited, pending_arg}

abbrev pub call_on : End → Call
call_on end.Read = Read
call_on end.Write = Write

-- what the open file that a descriptor names is open on
abbrev pub target_named : Kernel → ℕ → ℕ → Option Target
target_named k i d = option_map (λ (f : OpenFile). f.target) (file_named k.files (descriptors_at k i) d)

-- what an open file is open on, if such a call may be made on it
abbrev pub target_for : End → Option OpenFile → Option Target
target_for end.Read o = result_ok (readable_at o)
target_for end.Write o = result_ok (writable_at o)

-- a read writes its bytes into the memory, and a write reads them
abbrev pub can_transfer : End → Memory → ℕ → ℕ → Bool
can_transfer end.Read memory address count = can_write memory address count
can_transfer end.Write memory address count = is_some (read_bytes memory address count)

-- process i, which runs, goes on with pending call w on an end, of what is open on t
pub record Transfers (k : Kernel) (i : ℕ) (end : End) (t : Target) (w : Pending) : Type 0 where
  pub runs : RunsAt k i
  pub number : w.number ≡ call_on end
  pub can : IsPending (descriptors_at k i) (view_at k.spaces i).memory w (call_on end)
  pub fresh : IsFresh k.files (descriptors_at k i) w
  pub target : target_named k i (low (pending_arg w 0)) ≡ Some t

-- it begins to, of open file x.id, which its descriptor names
pub record Uses (k : Kernel) (i : ℕ) (e : End) (x : Transfer) : Type 0 where
  pub goes : Transfers k i e x.target x.pending
  pub named : slot (descriptors_at k i) (low (pending_arg x.pending 0)) ≡ Some x.id
  pub may : target_for e (file_at k.files x.id) ≡ Some x.target
  pub start : x.pending.done ≡ 0

-- what is open there is the console, or some end of pipe q
abbrev pub OnConsole : Kernel → ℕ → End → Pending → Type 0
OnConsole k i end w = (n : ℕ) × Transfers k i end (target.Console n) w

abbrev pub OnThePipe : Kernel → ℕ → End → ℕ → Pending → Type 0
OnThePipe k i end q w = (e : End) × Transfers k i end (target.Pipe q e) w

-- its row is the outcome of the pending call, within the limits
pub record Begins (k : Kernel) (i : ℕ) (end : End) (x : Transfer) : Type 0 where
  pub uses : Uses k i end x
  pub row : outcome_at (state_of k) i (Some (call_on end)) ≡ limited (going_at (state_of k) i x.pending)

-- ---- write

-- a front of some bytes
abbrev pub IsFront : List ℕ → List ℕ → Type 0
IsFront front bytes = (length front ≤ length bytes) × (front ≡ take (length front) bytes)
