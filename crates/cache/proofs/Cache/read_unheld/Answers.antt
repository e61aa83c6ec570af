use Rattle.std.proofs.Common.{length}
use Rattle.cache.proofs.Using.{goes-stays, read-done, step-failed, parted}
use Rattle.cache.proofs.Cache.read_unheld.Goals as goal

pub returns-in_err-block : goal.returns-in_err-block
returns-in_err-block g c = step-failed goes-stays c.read.ensures c.in_err-block.was c.from_residual.ensures.1

pub returns : goal.returns
returns g c = read-done c.read.ensures.goes c.in_ok-block.ensures.done.same
    (parted c.args.at (length c.args.out.now) _ _ _ c.copy_from_slice.ensures.after c.in_ok-block.ensures.done.told)
