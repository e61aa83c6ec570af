-- What the first of many steps return, which are done at once.
use Rattle.std.specs.Prelude.{Err, IsErrOf, List, None, Ok, OnOk, Option, Result, replicate, true, ℕ, ⊤, ◌+◌, ◌≡◌, ◌≤◌}
use Rattle.std.specs.Io.KnownBytes.{Appends}
use Rattle.calls.specs.declared.halt.Halt.{Halt}
use Rattle.calls.specs.declared.halt.Halt.TheVariants.{Console, Device, Halted, InitEnded}
use Rattle.calls.specs.Steps.{IsBusyFor}
use Rattle.kernel.specs.Idle.{is_idle}
use Rattle.machine.specs.View.{View}
use Rattle.unixmodel.specs.Calls.{After}
use Rattle.unixmodel.specs.declared.event.Event.TheVariants.{Step}
use Rattle.unixmodel.specs.Run.{run}

-- at most `most` steps; none where the machine had stopped, or where no process runs and none is ready, and only there
pub record IsPiece (old new : View) (most count : ℕ) (result : Result (Unit {0}) Halt) : Type 0 where
  pub within : count ≤ most
  pub busy : IsBusyFor old.state count
  pub idle : OnOk result (count ≡ 0 → is_idle new.state ≡ true)
  pub none : IsErrOf result Halted → count ≡ 0

-- the machine stops at the last of `count` steps: those before it go on, and this is left of them
pub record StopsLast (old : View) (count : ℕ) (Leaves : After → Type 0) : Type 0 where
  pub done : ℕ
  pub last : done + 1 ≡ count
  pub goes : (run old.state (replicate done Step)).state.halted ≡ None
  pub leaves : Leaves (run old.state (replicate done Step))

-- where a machine stops, it is at the last of `count` steps: a device that failed leaves the bytes of those before it,
-- a console their files
abbrev pub HaltsLast : View → View → Option (List ℕ) → Option (List ℕ) → ℕ → Result (Unit {0}) Halt → Type 0
HaltsLast old new before after count (Ok u) = ⊤
HaltsLast old new before after count (Err (InitEnded status)) = StopsLast old count (λ a. ⊤)
HaltsLast old new before after count (Err Device) = StopsLast old count (λ a. Appends before after a.bytes)
HaltsLast old new before after count (Err Console) = StopsLast old count (λ a. new.state.files ≡ a.state.files)
HaltsLast old new before after count (Err Halted) = count ≡ 0
