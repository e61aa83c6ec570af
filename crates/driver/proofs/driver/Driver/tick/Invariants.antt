use Rattle.std.proofs.Common.{◌-◌, ◌≡◌, ◌≤◌, replicate}
use Rattle.driver.proofs.Walking.{IsSoFar}
use Rattle.unixmodel.specs.declared.event.Event.TheVariants.{Tick}
use Rattle.driver.proofs.driver.Driver.tick.Given as goal

-- the ticks so far are given
abbrev pub invariant-loop-made : goal.invariant-loop-made
invariant-loop-made g l = record {
  far : IsSoFar (replicate l.made Tick) l.fn.self.machine l.self.machine l.fn.self.out l.self.out
      (g.R.Record.kept l.fn.self.keeper) (g.R.Record.kept l.self.keeper);
  within : l.made ≤ l.times;
  clock : l.self.clock ≡ l.fn.self.clock;
  rest : g.R.Record.rest l.self.keeper ≡ g.R.Record.rest l.fn.self.keeper;
}

abbrev pub decreases-loop-made : goal.decreases-loop-made
decreases-loop-made g l = l.times - l.made
