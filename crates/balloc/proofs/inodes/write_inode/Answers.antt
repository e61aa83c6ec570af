use Rattle.balloc.proofs.Common.{◌≡◌, ◌∙◌, ap, length, WritesInode-write, goes-stays, step-last}
use Rattle.balloc.proofs.Counting.{length-inode_bytes}
use Rattle.balloc.proofs.inodes.write_inode.Goals as goal

pub returns : goal.returns
returns g c =
    let long : length c.to_bytes.result ≡ 64 = ap length c.to_bytes.ensures.bytes
    ∙ length-inode_bytes c.args.inode.now c.requires.fits in
    step-last goes-stays (λ _ written. WritesInode-write c.args.geometry c.args.disk.now.blocks c.write.new.self.blocks
    c.args.number c.args.inode.now c.to_bytes.result
    c.requires.parts c.requires.high c.requires.fits long c.to_bytes.ensures.bytes
    (rw (c.at-place.ensures.block, c.at-place.ensures.offset) at written)) c.write.ensures
