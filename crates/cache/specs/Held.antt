-- What operations on a device, and on the blocks that are held over it, leave of both.
use Rattle.std.specs.Map.{lookup}
use Rattle.std.specs.Prelude.{Bool, IfOk, List, None, Result, Some, false, length, nat_eq, true, ℕ, ◌≡◌}
use Rattle.std.specs.Result.{OnErr, OnOk}
use Rattle.blockdev.specs.declared.DeviceFault.{DeviceFault}
use Rattle.unixmodel.specs.Failures.{HasCause}
use Rattle.cache.specs.Overlay.{AreKept, IsKept, overlay}
use Rattle.cache.specs.declared.held.Slot.{Slot}

-- so it is for block n, where it is held
abbrev pub IfHeld : List (ℕ × Slot) → ℕ → (Slot → Type 0) → Type 0
IfHeld entries n Is = (s : Slot) → lookup (nat_eq n) entries ≡ Some s → Is s

-- block n isn't held, and may be, as this slot has it
pub record MayHold (held : List (ℕ × Slot)) (stored : List (List ℕ)) (in_doubt : Bool) (n : ℕ) (s : Slot) : Type 0 where
  pub kept : AreKept held stored in_doubt
  pub unheld : lookup (nat_eq n) held ≡ None
  pub slot : IsKept stored false n s

-- Of a device's blocks and those held over them: the blocks that both show are what the result makes of them. After a
-- fault that is open, but what is held is as it must be.
pub record Holds {D T : Type 0} (content_of : D → List (List ℕ)) (identity_of : D → List ℕ) (failures_of : D → ℕ)
    (old new : D) (held held' : List (ℕ × Slot)) (in_doubt' : Bool) (result : Result T DeviceFault)
    (made : T → List (List ℕ) → List (List ℕ)) : Type 0 where
  pub blocks : IfOk result (λ x. overlay held' (content_of new) ≡ made x (overlay held (content_of old)))
  pub kept : AreKept held' (content_of new) in_doubt'
  pub count : length (content_of new) ≡ length (content_of old)
  pub identity : identity_of new ≡ identity_of old
  pub cause : HasCause (failures_of old) (failures_of new) result

-- a block is written to a device, and a write that fails leaves in doubt what is held
pub record Writes {D : Type 0} (content_of : D → List (List ℕ)) (identity_of : D → List ℕ) (failures_of : D → ℕ)
    (old new : D) (in_doubt in_doubt' : Bool) (result : Result Unit DeviceFault) (Written : Type 0) : Type 0 where
  pub written : OnOk result Written
  pub kept : OnOk result (in_doubt' ≡ in_doubt)
  pub doubt : OnErr result (in_doubt' ≡ true)
  pub count : length (content_of new) ≡ length (content_of old)
  pub identity : identity_of new ≡ identity_of old
  pub cause : HasCause (failures_of old) (failures_of new) result
