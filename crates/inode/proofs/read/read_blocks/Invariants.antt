use Rattle.inode.proofs.Common.{◌≡◌, ◌-◌, ◌++◌, ◌≤◌, bytes_of, drop, part, Goes}
use Rattle.inode.proofs.read.read_blocks.Given as goal

abbrev pub invariant-chunk : goal.invariant-chunk
invariant-chunk g l = record {
  disk : l.disk.blocks ≡ l.fn.disk.blocks;
  goes : Goes g.D.BlockDev.identity l.fn.disk l.disk;
  within : l.done ≤ l.count;
  has_read : l.out ≡ part l.at l.done (bytes_of l.fn.disk.blocks l.number) ++ drop l.done l.fn.out;
}

abbrev pub decreases-chunk : goal.decreases-chunk
decreases-chunk g l = l.count - l.done
