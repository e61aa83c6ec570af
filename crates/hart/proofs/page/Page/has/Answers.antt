use Rattle.hart.proofs.Common.{arith}
use Rattle.hart.proofs.Pages.{compared}
use Rattle.hart.proofs.page.Page.has.Goals as goal

pub loop-k-init : goal.loop-k-init
loop-k-init c = λ same j since less. absurd (omega (arith, since, less))

pub loop-k-preserved : goal.loop-k-preserved
loop-k-preserved c =
    compared c.args.self.now.words c.args.ram.now c.args.f.0 c.loop-k.k c.load_u32.result c.loop-k.same
    c.loop-k.invariant c.load_u32.ensures

pub returns : goal.returns
returns c = λ same j since less. c.loop-k.invariant same j since (omega (arith, less, c.loop-k-test.false))
