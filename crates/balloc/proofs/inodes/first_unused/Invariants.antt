use Rattle.balloc.proofs.Common.{◌≢◌, ℕ, ◌*◌, ◌<◌, ◌≤◌, part, inode_of}
use Rattle.balloc.proofs.inodes.first_unused.Given as goal

abbrev pub invariant-loop-i : goal.invariant-loop-i
invariant-loop-i l = (k : ℕ) → l.from ≤ k → k < l.i → (inode_of (part (64 * k) 64 l.block)).kind ≢ 0
