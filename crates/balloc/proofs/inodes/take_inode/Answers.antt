use Rattle.balloc.proofs.Common.{subst, FindsInode, TakesNode, goes-after, goes-stays, step-done, step-failed}
use Rattle.balloc.proofs.inodes.take_inode.Goals as goal

pub returns-in_err-number : goal.returns-in_err-number
returns-in_err-number g c = step-failed goes-stays c.find_unused.ensures c.in_err-number.was c.from_residual.ensures.1

pub returns-in_default : goal.returns-in_default
returns-in_default g c =
    step-done c.find_unused.ensures.goes
    (subst (FindsInode _ _) c.in_default.is c.in_ok-number.ensures.done.told, c.in_ok-number.ensures.done.same)

pub take_inode_at-requires : goal.take_inode_at-requires
take_inode_at-requires g c =
    let lowest = subst (FindsInode _ _) c.in-Some.is c.in_ok-number.ensures.done.told in
    record {
      sound = rw c.in_ok-number.ensures.done.same c.requires.sound;
      unused = rw c.in_ok-number.ensures.done.same
          (record { low = lowest.low; high = lowest.high; unused = lowest.unused });
    }

pub returns-in_err-take_inode_at : goal.returns-in_err-take_inode_at
returns-in_err-take_inode_at g c =
    step-failed c.find_unused.ensures.goes c.take_inode_at.ensures c.in_err-take_inode_at.was
    c.from_residual-in_err-take_inode_at.ensures.1

pub returns : goal.returns
returns g c =
    let found = subst (FindsInode _ _) c.in-Some.is c.in_ok-number.ensures.done.told in
    step-done (goes-after c.find_unused.ensures.goes c.take_inode_at.ensures.goes) (
      found,
      subst (λ b. TakesNode c.args.geometry b c.take_inode_at.new.disk.blocks c.in-Some.number c.args.kind
          c.args.links) c.in_ok-number.ensures.done.same c.in_ok-take_inode_at.ensures.done,
    )
