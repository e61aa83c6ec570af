use Rattle.std.proofs.Common.{map, take, ◌≡◌}
use Rattle.driver.proofs.Walking.{IsSoFar}
use Rattle.unixmodel.specs.declared.event.Event.TheVariants.{Key}
use Rattle.driver.proofs.driver.Driver.press.Given as goal

-- the keys so far are given
abbrev pub invariant-loop-key : goal.invariant-loop-key
invariant-loop-key g l = record {
  far : IsSoFar (take l.key-index (map Key l.keys)) l.fn.self.machine l.self.machine l.fn.self.out l.self.out
      (g.R.Record.kept l.fn.self.keeper) (g.R.Record.kept l.self.keeper);
  clock : l.self.clock ≡ l.fn.self.clock;
  rest : g.R.Record.rest l.self.keeper ≡ g.R.Record.rest l.fn.self.keeper;
}
