-- What a machine is given by a play.
use Rattle.std.specs.Prelude.{IfOk, List, Option, Result, ◌≡◌}
use Rattle.calls.specs.declared.halt.Halt.{Halt}
use Rattle.driver.specs.Driven.{IsDriven, Printed, halts}
use Rattle.driver.specs.Plays.{Plays}
use Rattle.driver.specs.Spots.{Spot}
use Rattle.driver.specs.declared.play.Unreached.{Unreached}
use Rattle.events.specs.Records.{Kept}
use Rattle.machine.specs.View.{View}
use Rattle.events.specs.Places.{first_place}
use Rattle.events.specs.declared.grammar.Act.{Act}

-- a machine was given the events of a play's lines, up to one that waits in vain, which is told; at most 2^64 - 1 lines
-- come
pub record IsPlayed (acts : List Act) (s : Spot) (old new : View) (from to : Printed)
    (kept keeps : Option Kept) (result : Result (Option Unreached) Halt) : Type 0 where
  pub vain : Option Unreached
  pub driven : IsDriven (Plays 0xffff_ffff_ffff_ffff acts first_place s vain) old new from to kept keeps (halts result)
  pub told : IfOk result (λ unreached. unreached ≡ vain)
