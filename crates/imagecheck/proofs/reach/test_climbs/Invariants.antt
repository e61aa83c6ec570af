use Rattle.imagecheck.proofs.Common.{◌≡◌, ◌≤◌, ◌<◌, ℕ, length, kind_in, files_in, Climbs, HasWalked}
use Rattle.imagecheck.proofs.reach.test_climbs.Given as goal

abbrev pub invariant-loop-n : goal.invariant-loop-n
invariant-loop-n l = record {
  long : length l.marks ≡ l.geometry.inodes;
  walked : HasWalked (files_in l.image) l.n l.marks;
  climb : (m : ℕ) → 1 ≤ m → m < l.n → kind_in l.image m ≡ 1 → Climbs (files_in l.image) m;
}
