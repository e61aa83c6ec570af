use Rattle.balloc.proofs.Common.{subst, Finds, goes-after, goes-stays, step-done, step-failed}
use Rattle.balloc.proofs.Counting.{free_blocks-take, found_takes, full_none}
use Rattle.balloc.proofs.blocks.take_block.Goals as goal

pub returns-in_err-b : goal.returns-in_err-b
returns-in_err-b g c = step-failed goes-stays c.find_free.ensures c.in_err-b.was c.from_residual.ensures.1

pub returns-in_default : goal.returns-in_default
returns-in_default g c =
    step-done c.find_free.ensures.goes (
      full_none c.args.geometry c.args.disk.now.blocks c.data_start.ensures
          (subst (Finds _ _ _) c.in_default.is c.in_ok-b.ensures.done.told),
      c.in_ok-b.ensures.done.same,
    )

pub returns-in_err-mark : goal.returns-in_err-mark
returns-in_err-mark g c =
    step-failed c.find_free.ensures.goes c.mark.ensures c.in_err-mark.was c.from_residual-in_err-mark.ensures.1

pub returns : goal.returns
returns g c =
    let found = subst (Finds _ _ _) c.in-Some.is c.in_ok-b.ensures.done.told in
    let takes = found_takes c.data_start.ensures found c.in_ok-b.ensures.done.same c.in_ok-mark.ensures.done in
    step-done (goes-after c.find_free.ensures.goes c.mark.ensures.goes)
    (takes, free_blocks-take takes.lowest.free takes.takes)
