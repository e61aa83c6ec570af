-- What processes wait for, and where one may wait.
use Rattle.std.specs.Prelude.{Bool, List, MatchOption, Option, false, slice_set, true, ℕ, ◌<◌, ◌≡◌, ◌≤◌}
use Rattle.proc.specs.declared.process.Process.{Process}
use Rattle.proc.specs.declared.waits.WaitPlaces.{WaitPlaces}
use Rattle.proc.specs.declared.waits.WaitKind.{WaitKind}
use Rattle.proc.specs.declared.waits.WaitKind.TheVariants.{Child, Time, Transfer}
use Rattle.proc.specs.Mask.{is_in}
use Rattle.unixmodel.specs.declared.call.Call.{Call}
use Rattle.unixmodel.specs.declared.call.Call.TheVariants.{Read, Sleep, Wait, Write}
use Rattle.unixmodel.specs.declared.process.Mode.{Mode}
use Rattle.unixmodel.specs.declared.process.Mode.TheVariants.{Ready, Running, Waiting, Zombie}
use Rattle.unixmodel.specs.Files.{slot}
use Rattle.unixmodel.specs.State.{holds, place_limit}

-- whether a call waits for that kind of event
abbrev pub call_waits : WaitKind → Call → Bool
call_waits Time Sleep = true
call_waits Time _ = false
call_waits Transfer Read = true
call_waits Transfer Write = true
call_waits Transfer _ = false
call_waits Child Wait = true
call_waits Child _ = false

abbrev pub mode_waits : WaitKind → Mode → Bool
mode_waits kind Running = false
mode_waits kind Ready = false
mode_waits kind (Waiting w) = call_waits kind w.number
mode_waits kind (Zombie status) = false

-- whether a process waits for that kind of event
abbrev pub waits_so : WaitKind → Process → Bool
waits_so kind p = mode_waits kind p.mode

-- slot i is the first from slot `from` on whose process waits for that
pub record IsFirstWaiting (places : List (Option Process)) (kind : WaitKind) (from i : ℕ) : Type 0 where
  pub in_places : (from ≤ i) × (i < place_limit)
  pub there : holds (waits_so kind) (slot places i) ≡ true
  pub before : (j : ℕ) → from ≤ j → j < i → holds (waits_so kind) (slot places j) ≡ false

-- no process in the slots from `from` on waits for that
abbrev pub NoneWaits : List (Option Process) → WaitKind → ℕ → Type 0
NoneWaits places kind from = (j : ℕ) → from ≤ j → j < place_limit → holds (waits_so kind) (slot places j) ≡ false

-- the first slot from slot `from` on whose process waits for that
abbrev pub FindsWaiting : List (Option Process) → WaitKind → ℕ → Option ℕ → Type 0
FindsWaiting places kind from result = MatchOption result (NoneWaits places kind from) (IsFirstWaiting places kind from)

-- whoever waits for that is in one of these slots
pub record IsWithin (kind : WaitKind) (places : List (Option Process)) (may : List Bool) : Type 0 where
  pub out : (j : ℕ) → is_in may j ≡ false → holds (waits_so kind) (slot places j) ≡ false

pub record AreWithin (places : List (Option Process)) (may : WaitPlaces) : Type 0 where
  pub sleeps : IsWithin Time places may.sleeps
  pub transfers : IsWithin Transfer places may.transfers
  pub children : IsWithin Child places may.children

-- a process may wait in slot i, whatever for
abbrev pub with_place : WaitPlaces → ℕ → WaitPlaces
with_place may i = record {
  sleeps = slice_set may.sleeps i true;
  transfers = slice_set may.transfers i true;
  children = slice_set may.children i true;
}
