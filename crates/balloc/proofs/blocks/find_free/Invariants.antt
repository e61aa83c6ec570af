use Rattle.balloc.proofs.Common.{◌≡◌, ℕ, ◌-◌, ◌<◌, ◌≤◌, bitmap_start_of, bit_of, Goes}
use Rattle.balloc.proofs.blocks.find_free.Given as goal

abbrev pub invariant-scan : goal.invariant-scan
invariant-scan g l = record {
  disk : l.disk.blocks ≡ l.fn.disk.blocks;
  goes : Goes g.D.BlockDev.identity l.fn.disk l.disk;
  from : l.from ≤ l.b;
  set_so_far : (c : ℕ) → l.from ≤ c → c < l.b → bit_of l.fn.disk.blocks (bitmap_start_of l.geometry.inodes) c ≡ 1;
}

abbrev pub decreases-scan : goal.decreases-scan
decreases-scan g l = l.geometry.size - l.b
