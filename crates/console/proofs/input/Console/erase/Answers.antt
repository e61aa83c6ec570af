use Rattle.std.proofs.Common.{arith}
use Rattle.console.proofs.Lines.{line-erase}
use Rattle.console.proofs.input.Console.erase.Goals as goal

pub returns : goal.returns
returns c =
    let s = c.self.inside in
    rw (← c.self.view_is) (line-erase _ _ _ _ _ _ (omega (arith, c.saturating_sub-self-inside.ensures)))
