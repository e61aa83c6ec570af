use Rattle.balloc.proofs.Common.{ap, ◌∙◌, inode_of, goes-stays, read-done, step-failed}
use Rattle.balloc.proofs.inodes.read_inode.Goals as goal

pub returns-in_err-read_part : goal.returns-in_err-read_part
returns-in_err-read_part g c =
    step-failed goes-stays c.read_part.ensures c.in_err-read_part.was c.from_residual.ensures.1

pub returns : goal.returns
returns g c =
    read-done c.read_part.ensures.goes c.in_ok-read_part.ensures.done.same
    (record {
      is = c.from_front.ensures.inode
          ∙ ap inode_of (rw (c.at-place.ensures.block, c.at-place.ensures.offset)
          at c.in_ok-read_part.ensures.done.told);
      fits = c.from_front.ensures.fits;
    })
