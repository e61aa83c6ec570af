use Rattle.console.proofs.Common.{arith, length-ring}
use Rattle.console.proofs.Lines.{line-drop_first}
use Rattle.console.proofs.input.Console.drop_first.Goals as goal

pub overflow_sub-self : goal.overflow_sub-self
overflow_sub-self c =
    let s = c.self.inside in
    let h = rw (← c.self.view_is) at c.requires in
    omega (arith, h, length-ring 128 s.places s.from s.committed)

pub returns : goal.returns
returns c =
    let s = c.self.inside in
    let h = rw (← c.self.view_is) at c.requires in
    rw (← c.self.view_is) (line-drop_first _ _ s.committed _
    (omega (arith, h, length-ring 128 s.places s.from s.committed)))
