-- How a search from a start begins.
use Rattle.std.specs.Prelude.{List, Some, false, ℕ, ◌≡◌}
use Rattle.orders.specs.Ends.{is_anyone_asleep}
use Rattle.unixmodel.specs.Files.{Files}
use Rattle.unixmodel.specs.Start.{start, start_flat}
use Rattle.unixmodel.specs.State.{State}

-- no process sleeps at a start
pub record StartsAwake : Type 0 where
  pub starts : (files : Files) (blocks frames : ℕ) (s : State) → start files blocks frames ≡ Some s
      → is_anyone_asleep s ≡ false
  pub starts_flat : (bytes : List ℕ) (frames : ℕ) (s : State) → start_flat bytes frames ≡ Some s
      → is_anyone_asleep s ≡ false
