use Rattle.inode.proofs.Common.{◌-◌, ◌≤◌, length, take, splice, Goes, bytes_of, Fits, IsInHand, Wrote}
use Rattle.inode.proofs.write.write_front.Given as goal

abbrev pub invariant-piece : goal.invariant-piece
invariant-piece g l = record {
  wrote : Wrote l.geometry l.fn.disk.blocks l.disk.blocks l.number
      (splice l.at (take l.done l.bytes) (bytes_of l.fn.disk.blocks l.number));
  held : IsInHand l.geometry l.disk.blocks l.number l.inode;
  fits : Fits l.inode;
  goes : Goes g.D.BlockDev.identity l.fn.disk l.disk;
  within : l.done ≤ length l.bytes;
}

abbrev pub decreases-piece : goal.decreases-piece
decreases-piece g l = length l.bytes - l.done
