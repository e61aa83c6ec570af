use Rattle.balloc.proofs.Common.{◌≡◌, ◌+◌, ◌-◌, ◌≤◌, data_start_of, free_blocks, Goes}
use Rattle.balloc.proofs.Counting.{free_from}
use Rattle.balloc.proofs.blocks.has_blocks.Given as goal

abbrev pub invariant-search : goal.invariant-search
invariant-search g l = record {
  same : l.disk.blocks ≡ l.fn.disk.blocks;
  goes : Goes g.D.BlockDev.identity l.fn.disk l.disk;
  low : data_start_of l.geometry.size l.geometry.inodes ≤ l.from;
  high : l.from ≤ l.geometry.size;
  some : l.found ≤ l.wanted;
  counted : free_blocks l.geometry l.fn.disk.blocks ≡ l.found + free_from l.geometry l.fn.disk.blocks l.from;
}

abbrev pub decreases-search : goal.decreases-search
decreases-search g l = l.wanted - l.found
