-- What a pick does to a table.
use Rattle.std.specs.Prelude.{Bool, IfNone, IfSome, Option, false, ℕ, ◌<◌, ◌≡◌}
use Rattle.proc.specs.Mask.{Passes}
use Rattle.proc.specs.Pick.{Picks}
use Rattle.proc.specs.Places.{Places, is_awake}

-- says i b: the result at slot i may be b. The first slot of the round at which it is true was picked, if there is one.
-- Slots before it that were awake no longer are, and nothing else changed.
pub record PicksFirst (says : ℕ → Bool → Type 0) (old new : Places) (result : Option ℕ) : Type 0 where
  pub first : Picks says old.last result
  pub picked : IfSome result (λ i. new ≡ record old { last = i; awake = new.awake })
  pub within : IfSome result (λ i. i < 64)
  pub none : IfNone result (new ≡ record old { awake = new.awake })
  pub awake : (i : ℕ) → is_awake new i ≡ false → says i false
  pub passed : Passes new.awake old.last result
