use Rattle.balloc.proofs.Common.{◌<◌, replicate, arith, refl, goes-after, goes-stays, step-done, step-failed}
use Rattle.balloc.proofs.Formatting.{Cleared-more, HasParts-write}
use Rattle.balloc.proofs.fresh.clear.Goals as goal

pub block-init : goal.block-init
block-init g c = record {
  parts = c.requires;
  cleared = λ k h. absurd (omega (arith, h));
  goes = goes-stays;
  within = omega arith;
}

pub block-preserved : goal.block-preserved
block-preserved g c =
    let high : c.block.k < c.args.geometry.size =
    omega (arith, c.block-test.true, c.data_start-end.ensures, c.requires.room) in
    record {
      parts = HasParts-write c.block.k (replicate 1024 0) c.block.invariant.parts high (omega arith)
          c.in_ok-write.ensures.done;
      cleared = Cleared-more c.block.k (replicate 1024 0) c.block.invariant.parts c.block.invariant.cleared high refl
          c.in_ok-write.ensures.done;
      goes = goes-after c.block.invariant.goes c.write.ensures.goes;
      within = omega (arith, c.block-test.true);
    }

pub returns-in_err-write : goal.returns-in_err-write
returns-in_err-write g c =
    step-failed c.block.invariant.goes c.write.ensures c.in_err-write.was c.from_residual.ensures.1

pub returns : goal.returns
returns g c =
    let i = c.block.invariant in
    step-done i.goes (i.parts, λ k h. i.cleared k (omega (arith, h, c.data_start-end.ensures, c.block-test.false)))
