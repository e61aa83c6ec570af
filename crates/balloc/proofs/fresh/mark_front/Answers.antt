use Rattle.balloc.proofs.Common.{arith, refl, subst, HasFront, goes-after, goes-stays, step-done, step-failed}
use Rattle.balloc.proofs.Formatting.{front-more}
use Rattle.balloc.proofs.fresh.mark_front.Goals as goal

pub block-init : goal.block-init
block-init g c = record {
  front = record {
    parts = c.requires.parts;
    before = λ k h. refl;
    marked = λ b low high. absurd (omega (arith, low));
    unmarked = λ b low high. c.requires.clear b high;
  };
  goes = goes-stays;
  within = omega arith;
}

pub returns-in_err-mark : goal.returns-in_err-mark
returns-in_err-mark g c = step-failed c.block.invariant.goes c.mark.ensures c.in_err-mark.was c.from_residual.ensures.1

pub block-preserved : goal.block-preserved
block-preserved g c = record {
  front = front-more c.block.invariant.front c.in_ok-mark.ensures.done;
  goes = goes-after c.block.invariant.goes c.mark.ensures.goes;
  within = omega (arith, c.block-test.true);
}

pub returns : goal.returns
returns g c =
    let i = c.block.invariant in
    step-done i.goes (subst (HasFront c.args.geometry c.args.disk.now.blocks c.block.disk.blocks)
    (omega (arith, c.block-test.false, i.within, c.data_start-end.ensures)) i.front)
