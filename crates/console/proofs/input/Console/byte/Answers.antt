use Rattle.console.proofs.Common.{arith, length-ring}
use Rattle.console.proofs.Lines.{line-byte}
use Rattle.console.proofs.input.Console.byte.Goals as goal

pub overflow_add-result : goal.overflow_add-result
overflow_add-result c =
    let h = rw (← c.self.view_is, length-ring, length-ring) at c.requires in
    omega (arith, h, c.self.invariant.0, c.self.invariant.1)

pub returns : goal.returns
returns c =
    let h = rw (← c.self.view_is, length-ring, length-ring) at c.requires in
    rw (← c.self.view_is) (line-byte _ _ _ _ h)
