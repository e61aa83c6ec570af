use Rattle.std.proofs.Common.{◌-◌, ◌≡◌}
use Rattle.std.specs.Prelude.{option_map}
use Rattle.driver.proofs.Walking.{IsWalking}
use Rattle.driver.proofs.driver.Driver.walk.Given as goal

-- the steps so far are given, and the wait was not over before the last of them
abbrev pub invariant-loop-made : goal.invariant-loop-made
invariant-loop-made g l = record {
  walking : IsWalking (option_map (λ g. g.now) l.aim) l.most l.made l.fn.self.machine l.self.machine l.fn.self.out
      l.self.out (g.R.Record.kept l.fn.self.keeper) (g.R.Record.kept l.self.keeper) l.fn.self.clock l.self.clock;
  rest : g.R.Record.rest l.self.keeper ≡ g.R.Record.rest l.fn.self.keeper;
}

abbrev pub decreases-loop-made : goal.decreases-loop-made
decreases-loop-made g l = l.most - l.made
