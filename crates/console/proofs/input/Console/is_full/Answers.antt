use Rattle.console.proofs.Common.{arith, common_steps, length-ring}
use Rattle.console.proofs.input.Console.is_full.Goals as goal

pub returns : goal.returns
returns c =
    let s = c.self.inside in
    rw (← c.self.view_is, length-ring, length-ring) (grind (arith, common_steps))
