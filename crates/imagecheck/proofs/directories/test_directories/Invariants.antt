use Rattle.imagecheck.proofs.Common.{ℕ, ◌≡◌, ◌<◌, ◌≤◌, contents_in, kind_in, HasNames}
use Rattle.imagecheck.proofs.Collecting.{namings_to}
use Rattle.imagecheck.proofs.directories.test_directories.Given as goal

abbrev pub invariant-loop-n : goal.invariant-loop-n
invariant-loop-n g l = record {
  named : (m : ℕ) → 1 ≤ m → m < l.n → kind_in l.image m ≡ 1 → HasNames l.image (contents_in l.image m);
  collected : l.namings.items ≡ namings_to l.image l.n;
}
