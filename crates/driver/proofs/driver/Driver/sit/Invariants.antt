use Rattle.driver.proofs.Sitting.{Sits}
use Rattle.driver.proofs.driver.Driver.sit.Given as goal

-- what the keyboard gave so far has come to its events
abbrev pub invariant-loop-moves : goal.invariant-loop-moves
invariant-loop-moves g l =
    Sits l.quantum (g.R.Terminal.gives l.fn.self.keeper) (g.R.Terminal.gives l.self.keeper) l.fn.self.machine
    l.self.machine l.fn.self.out l.self.out (g.R.Record.kept l.fn.self.keeper) (g.R.Record.kept l.self.keeper)
    l.self.clock l._moves
