-- No process sleeps at a start.
use Rattle.std.proofs.Common.{false, List, None, Option, refl, Some, subst, suc, zero, ℕ, ◌≡◌}
use Rattle.std.proofs.lemmas.Option.{cond_some}
use Rattle.std.specs.List.{list_any}
use Rattle.std.specs.Prelude.{nat_le, option_and_then}
use Rattle.orders.specs.Ends.{is_anyone_asleep, is_asleep}
use Rattle.orders.specs.Starts.{StartsAwake}
use Rattle.unixmodel.specs.Counts.{frames_of}
use Rattle.unixmodel.specs.Files.{Files, free_slots}
use Rattle.unixmodel.specs.Plan.{Plan, plan_flat}
use Rattle.unixmodel.specs.Start.{if_fits, init_plan, start, start_flat}
use Rattle.unixmodel.specs.State.{State, holds}

-- nor in slots that are free
free-awake : (n : ℕ) → list_any (holds is_asleep) (free_slots n) ≡ false
unfolding free_slots
free-awake zero = refl
free-awake (suc n) = free-awake n

started : (make : Plan → State) (o : Option Plan) (s : State)
    → ((new : Plan) → is_anyone_asleep (make new) ≡ false)
    → option_and_then (λ new. if_fits (make new)) o ≡ Some s → is_anyone_asleep s ≡ false
started make None s awake is = absurd cc
started make (Some new) s awake is =
    subst (λ t. is_anyone_asleep t ≡ false)
    (cond_some (nat_le (frames_of (make new)) (make new).frame_limit) (make new) s is).1 (awake new)

start-awake : (files : Files) (blocks frames : ℕ) (s : State) → start files blocks frames ≡ Some s
    → is_anyone_asleep s ≡ false
unfolding start
start-awake files blocks frames s is = started _ (init_plan files) s (λ new. free-awake 63) is

start-flat-awake : (bytes : List ℕ) (frames : ℕ) (s : State) → start_flat bytes frames ≡ Some s
    → is_anyone_asleep s ≡ false
unfolding start_flat
start-flat-awake bytes frames s is = started _ (plan_flat bytes) s (λ new. free-awake 63) is

pub starts-awake : StartsAwake
starts-awake = record { starts = start-awake; starts_flat = start-flat-awake }
