use Rattle.console.proofs.Common.{◌+◌, ◌<◌, arith, rules, common_steps, length-ring}
use Rattle.console.proofs.Lines.{line-push}
use Rattle.console.proofs.input.Console.push.Goals as goal

pub invariant_of-self : goal.invariant_of-self
invariant_of-self c =
    let h = rw (← c.self.view_is, length-ring, length-ring) at c.requires in
    let fits : c.self.inside.committed + c.self.inside.edited < 128 = grind (arith, common_steps) in
    (c.self.invariant.0, omega arith)

pub returns : goal.returns
returns c =
    let s = c.self.inside in
    let h = rw (← c.self.view_is, length-ring, length-ring) at c.requires in
    let fits : c.self.inside.committed + c.self.inside.edited < 128 = grind (arith, common_steps) in
    rw (← c.self.view_is) (line-push _ _ _ _ (search rules) c.self.invariant.0 fits)
