-- What a machine returns when it is asked for the files of its disk.
use Rattle.calls.specs.declared.halt.Halt.{Halt}
use Rattle.calls.specs.declared.halt.Halt.TheVariants.{Console, Device, Halted, InitEnded}
use Rattle.inode.specs.declared.InodeStat.{InodeStat}
use Rattle.machine.specs.declared.inodes.Stat.{Stat}
use Rattle.machine.specs.View.{View}
use Rattle.std.specs.Prelude.{Err, List, Ok, Result, drop, false, length, true, ℕ, ◌++◌, ◌≡◌, ◌≤◌}
use Rattle.unixmodel.specs.Failures.{Rises}
use Rattle.unixmodel.specs.Shown as shown
use Rattle.unixmodel.specs.State.{State}

-- a node of the abstract Unix, as a machine reports it
abbrev pub stat_seen : shown.Stat → Stat
stat_seen s = record { kind = s.kind; links = s.links; size = s.size }

-- the same, from the attributes of its inode
abbrev pub stat_from : InodeStat → Stat
stat_from s = record { kind = s.kind; links = s.links; size = s.size }

-- a buffer begins with these bytes, as many as are reported, and is as it was after them
pub record IsRead (bytes old new : List ℕ) (told : ℕ) : Type 0 where
  pub count : told ≡ length bytes
  pub front : new ≡ bytes ++ drop told old

-- a buffer begins with the bytes of a node from offset `at` on, as many as there are and as fit
abbrev pub ReadsAt : State → ℕ → ℕ → List ℕ → List ℕ → ℕ → Type 0
ReadsAt s number at old new told = IsRead (shown.shown_bytes s number at (length old)) old new told

-- ---- what the machine is then

-- all is as it was: the processes, the console, the files, the device
pub record IsSame (old new : View) : Type 0 where
  pub sound : old.failed ≡ false
  pub state : new.state ≡ old.state
  pub still : new.failed ≡ false
  pub same_device : new.identity ≡ old.identity
  pub later : old.failures ≤ new.failures

-- an access of the device, which is the same, failed, and its count of failures rose: the machine has failed
pub record IsLost (old new : View) : Type 0 where
  pub sound : old.failed ≡ false
  pub failed : new.failed ≡ true
  pub same_device : new.identity ≡ old.identity
  pub later : old.failures ≤ new.failures
  pub rises : Rises old.failures new.failures

-- it had failed earlier, and nothing changed
pub record HasStopped (old new : View) : Type 0 where
  pub failed : old.failed ≡ true
  pub same : new ≡ old

-- what a look at the files returns
abbrev pub LookGives : {X : Type 0} → View → View → (X → Type 0) → Result X Halt → Type 0
LookGives old new Tells (Ok x) = IsSame old new × Tells x
LookGives old new Tells (Err Device) = IsLost old new
LookGives old new Tells (Err Halted) = HasStopped old new
LookGives old new Tells (Err (InitEnded status)) = ⊥
LookGives old new Tells (Err Console) = ⊥
