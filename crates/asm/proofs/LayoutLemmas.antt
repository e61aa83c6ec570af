-- Zeros and padding, as numbers that are tested.
use Rattle.asm.proofs.Common.{◌≡◌, ◌-◌, ◌%◌, Bool, None, Some, false, negsuc, option_map, pos, refl, true}
use Rattle.asm.proofs.Common.{if◌then◌else◌, ℕ, ℤ, filled, if_room, is_step, room_at, natural_within, step_of}
use Rattle.unixmodel.specs.Statements.Statement.{Padding, Zeros}

pub zeros_within : (address : ℕ) (n : ℤ) → natural_within (room_at address) n ≡ filled address (Zeros n)
zeros_within address (pos n) = refl
zeros_within address (negsuc n) = refl

pub padding_within : (address : ℕ) (n : ℤ)
    → filled address (Padding n) ≡ if_room address (option_map (λ step. (step - address % step) % step) (step_of n))
padding_within address (negsuc n) = refl
padding_within address (pos n) = step (is_step n)
  where
    step : (b : Bool) → if_room address (if b then Some ((n - address % n) % n) else None)
        ≡ if_room address (option_map (λ step. (step - address % step) % step) (if b then Some n else None))
    step true = refl
    step false = refl
