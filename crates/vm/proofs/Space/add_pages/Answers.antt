use Rattle.vm.proofs.Common.{arith, ◌≡◌}
use Rattle.vm.proofs.Adding.{adds-both}
use Rattle.vm.proofs.Space.add_pages.Goals as goal

pub loop-page-preserved : goal.loop-page-preserved
loop-page-preserved c =
    let is = c.loop-page.invariant in
    let some = c.add_some-page.ensures in
    record {
      adds = adds-both is.from (omega (arith, some.more)) is.adds some.adds;
      from = omega (arith, is.from, some.more);
      to = some.order;
    }

pub returns : goal.returns
returns c =
    let all : c.loop-page.page ≡ c.args.to = omega (arith, c.loop-page.invariant.to) in
    rw all at c.loop-page.invariant.adds
