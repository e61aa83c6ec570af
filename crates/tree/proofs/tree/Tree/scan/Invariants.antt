use Rattle.tree.proofs.Common.{◌≡◌, ◌-◌, ◌<◌, ◌≤◌, ℕ, false, flat_map, is_sought, place_in, IsFolder, place_bytes}
use Rattle.tree.proofs.Following.{IsNow}
use Rattle.tree.proofs.tree.Tree.scan.Given as goal

abbrev pub invariant-block : goal.invariant-block
invariant-block g l = record {
  now : IsNow l.fn.self l.self l.fn.self.files;
  low : l.from ≤ l.k;
  before : (f : IsFolder l.fn.self.files l.directory) (j : ℕ) → j < l.k → l.from ≤ j
      → is_sought l.sought (place_in (flat_map place_bytes f.places) j) ≡ false;
}

abbrev pub decreases-block : goal.decreases-block
decreases-block g l = l.count - l.k
