use Rattle.hart.proofs.Common.{AreNow, true, ◌≡◌}
use Rattle.hart.proofs.page.Page.has.Given as goal

-- the words so far
abbrev pub invariant-loop-k : goal.invariant-loop-k
invariant-loop-k l = l.same ≡ true → AreNow l.self.words l.ram l.f.0 l.from l.k
