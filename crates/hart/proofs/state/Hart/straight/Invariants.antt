use Rattle.hart.proofs.Common.{IsLive, word_of, ℕ, ◌*◌, ◌-◌, ◌+◌, ◌<◌, ◌≡◌, ◌≤◌, ◌⊎◌}
use Rattle.hart.proofs.Straight.{GoesStraight}
use Rattle.hart.proofs.state.Hart.straight.Given as goal

abbrev pub invariant-word : goal.invariant-word
invariant-word g l = record {
  since : l.from ≤ l.k;
  within : l.k ≤ l.end;
  marked : (l.k < l.end) ⊎ (l.end ≡ 64 * l.fn.part + 64);
  done : GoesStraight (g.T.Translate.held l.fn.trans) (g.T.Translate.held l.trans) l.fn.self l.self l.fn.ram l.ram
      l.base l.from l.k l.fn.f.0;
  words : (f : ℕ) → IsLive l.live.frames f → (k : ℕ) → word_of l.ram f (4 * k) 4 ≡ word_of l.fn.ram f (4 * k) 4;
}

abbrev pub decreases-word : goal.decreases-word
decreases-word g l = l.end + 1 - l.k
