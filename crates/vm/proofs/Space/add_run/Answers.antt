use Rattle.vm.proofs.Common.{arith, ◌≡◌}
use Rattle.vm.proofs.Adding.{adds-both}
use Rattle.vm.proofs.Tables.{next-there}
use Rattle.vm.proofs.Space.add_run.Goals as goal

pub leaf_table-low-requires-clause-there : goal.leaf_table-low-requires-clause-there
leaf_table-low-requires-clause-there c = next-there c.requires.held.dense c.requires.run.inner

pub loop-page-preserved : goal.loop-page-preserved
loop-page-preserved c = record {
  adds = adds-both (omega arith) (omega arith) c.loop-page.invariant.adds c.add_page.ensures.adds;
  low = λ more. c.add_page.ensures.low (omega (arith, c.requires.run.one, c.requires.run.inner));
}

pub returns : goal.returns
returns c =
    let all : c.loop-page.page ≡ c.args.to = omega (arith, c.requires.run.some) in
    rw all at c.loop-page.invariant.adds
