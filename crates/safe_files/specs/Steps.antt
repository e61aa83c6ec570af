-- What the names of a folder hold, and what the steps of replacing a file make of that.
use Rattle.std.specs.Prelude.{Bool, List, [], None, Option, Some, true, ℕ, ◌++◌, ◌≡◌, ◌≢◌, ◌⊎◌}
use Rattle.safe_files.specs.declared.put.Attempt.{Attempt}
use Rattle.safe_files.specs.declared.put.Attempt.TheVariants.{Put, Taken}
use Rattle.safe_files.specs.declared.fault.PutFault.{PutFault}
use Rattle.safe_files.specs.declared.fault.PutFault.TheVariants as fault
use Rattle.safe_files.specs.declared.folder.Swept.{Swept}
use Rattle.safe_files.specs.declared.folder.Swept.TheVariants as swept
use Rattle.safe_files.specs.declared.fault.StepFault.{StepFault}
use Rattle.safe_files.specs.declared.fault.StepFault.TheVariants as step

-- the bytes under each name, if there is a file; the name of the file that was begun last, and whether all that was
-- written to it is on the disk; and whether the file of a name was left by a program that was killed
pub record Held : Type 0 where
  pub bytes : List ℕ → Option (List ℕ)
  pub begun : List ℕ
  pub synced : Bool
  pub left : List ℕ → Bool

-- all names except one hold what they held
abbrev pub IsBut : List ℕ → Held → Held → Type 0
IsBut name old new = (n : List ℕ) → n ≢ name → new.bytes n ≡ old.bytes n

-- all names do
abbrev pub IsSame : Held → Held → Type 0
IsSame old new = (n : List ℕ) → new.bytes n ≡ old.bytes n

-- one name holds this, all others what they held
pub record Sets (name : List ℕ) (held : Option (List ℕ)) (old new : Held) : Type 0 where
  pub at : new.bytes name ≡ held
  pub others : IsBut name old new

-- a new name holds a file without bytes
pub record Begins (name : List ℕ) (old new : Held) : Type 0 where
  pub free : old.bytes name ≡ None
  pub begun : new.begun ≡ name
  pub sets : Sets name (Some []) old new

-- no file is begun, and all is as it was; a name for which `Taken` is returned has a file
abbrev pub RefusesName : List ℕ → StepFault → Held → Held → Type 0
RefusesName name step.Taken old new = IsSame old new × (old.bytes name ≢ None)
RefusesName name _ old new = IsSame old new

-- these bytes come to the end of the file that was begun
pub record Writes (bytes : List ℕ) (old new : Held) : Type 0 where
  pub end : (front : List ℕ) → old.bytes old.begun ≡ Some front → new.bytes old.begun ≡ Some (front ++ bytes)
  pub others : IsBut old.begun old new

-- what the file that was begun holds is open
abbrev pub Spoils : Held → Held → Type 0
Spoils old new = IsBut old.begun old new

-- what was written is on the disk
pub record Syncs (old new : Held) : Type 0 where
  pub same : IsSame old new
  pub synced : new.synced ≡ true

-- what one name held the other holds, and the one nothing
pub record Moves (one other : List ℕ) (old new : Held) : Type 0 where
  pub gone : new.bytes one ≡ None
  pub there : new.bytes other ≡ old.bytes one
  pub others : (n : List ℕ) → n ≢ one → n ≢ other → new.bytes n ≡ old.bytes n

-- the file that was begun, of which nothing was written yet, gets these bytes and then the name
pub record Ends (begun name bytes : List ℕ) (old new : Held) : Type 0 where
  pub gone : new.bytes begun ≡ None
  pub there : old.begun ≡ begun → old.bytes begun ≡ Some [] → new.bytes name ≡ Some bytes
  pub others : (n : List ℕ) → n ≢ old.begun → n ≢ begun → n ≢ name → new.bytes n ≡ old.bytes n

-- the file has these bytes; or the name of the new one is its own or taken, and all is as it was
abbrev pub Tries : List ℕ → List ℕ → List ℕ → Attempt → Held → Held → Type 0
Tries begun name bytes Put old new = Sets name (Some bytes) old new
Tries begun name bytes Taken old new = IsSame old new × ((begun ≡ name) ⊎ (old.bytes begun ≢ None))

-- all is as it was, except that a file that was begun under another name may be left, where it could not be removed
abbrev pub Keeps : List ℕ → PutFault → Held → Held → Type 0
Keeps name fault.Left old new = (begun : List ℕ) × ((begun ≢ name) × IsBut begun old new)
Keeps name _ old new = IsSame old new

-- the file that was begun is gone, or stays where it could not be removed
abbrev pub GivesUp : List ℕ → PutFault → Held → Held → Type 0
GivesUp begun fault.Left old new = IsSame old new
GivesUp begun _ old new = Sets begun None old new

-- a file of this name is gone only if a program left it
abbrev pub SweepsAt : List ℕ → Swept → Held → Held → Type 0
SweepsAt name swept.Absent old new = IsSame old new × (new.left ≡ old.left) × (old.bytes name ≡ None)
SweepsAt name swept.Removed old new = Sets name None old new × (new.left ≡ old.left) × (old.left name ≡ true)
SweepsAt name swept.Kept old new = IsSame old new × (new.left ≡ old.left)

-- each name holds what it held, but files that programs left may be gone; the one of this name never is
pub record Sweeps (name : List ℕ) (old new : Held) : Type 0 where
  pub kept : new.bytes name ≡ old.bytes name
  pub each : (n : List ℕ) → (new.bytes n ≡ old.bytes n) ⊎ ((old.left n ≡ true) × (new.bytes n ≡ None))
  pub left : new.left ≡ old.left

-- what holds of the two, where it is known what a folder holds
abbrev pub Known : (Held → Held → Type 0) → Option Held → Option Held → Type 0
Known relation None None = Unit {0}
Known relation None (Some new) = ⊥
Known relation (Some old) None = ⊥
Known relation (Some old) (Some new) = relation old new

-- what was written to the file that was begun last is on the disk, where that is known
abbrev pub IsSynced : Option Held → Type 0
IsSynced None = Unit {0}
IsSynced (Some held) = held.synced ≡ true
