use Rattle.hart.proofs.Common.{AreNow, slice_index, ℕ, ◌<◌, ◌≡◌, ◌≤◌, ◌⊎◌}
use Rattle.hart.proofs.page.Page.renew_all.Given as goal

-- the words so far are those of the frame, and the others as they were
abbrev pub invariant-loop-k : goal.invariant-loop-k
invariant-loop-k l = record {
  now : AreNow l.self.words l.ram l.f.0 l.from l.k;
  others : (j : ℕ) → (j < l.from) ⊎ (l.k ≤ j) → slice_index l.self.words j ≡ slice_index l.fn.self.words j;
  parts : l.self.parts ≡ l.fn.self.parts;
}
