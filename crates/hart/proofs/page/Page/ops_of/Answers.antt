use Rattle.hart.proofs.Common.{arith, drop, length, rules, ◌-◌}
use Rattle.hart.proofs.Pages.{part-ops}
use Rattle.std.proofs.lemmas.List.{length-drop, take_all}
use Rattle.hart.proofs.page.Page.ops_of.Goals as goal

pub returns : goal.returns
returns c =
    let ops = c.args.self.now.ops in
    let part = c.number.result in
    let long = length-drop part ops in
    rw (← c.number.ensures.is, take_all (length ops - part) (drop part ops) (omega (arith, long)))
    (part-ops c.args.self.now.words ops part c.args.self.now.decoded (search rules) c.number.ensures.within)
