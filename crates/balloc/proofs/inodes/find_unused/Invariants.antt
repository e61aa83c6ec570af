use Rattle.balloc.proofs.Common.{◌≡◌, ◌≢◌, ℕ, ◌-◌, ◌<◌, ◌≤◌, inode_at, Goes}
use Rattle.balloc.proofs.inodes.find_unused.Given as goal

abbrev pub invariant-scan : goal.invariant-scan
invariant-scan g l = record {
  disk : l.disk.blocks ≡ l.fn.disk.blocks;
  goes : Goes g.D.BlockDev.identity l.fn.disk l.disk;
  from : 1 ≤ l.n;
  used_so_far : (m : ℕ) → 1 ≤ m → m < l.n → (inode_at l.fn.disk.blocks m).kind ≢ 0;
}

abbrev pub decreases-scan : goal.decreases-scan
decreases-scan g l = l.geometry.inodes - l.n
