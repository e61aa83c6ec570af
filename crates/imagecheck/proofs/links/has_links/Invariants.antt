use Rattle.std.proofs.Common.{ℕ, ◌<◌, ◌≤◌}
use Rattle.imagecheck.proofs.Entering.{LinksFit}
use Rattle.imagecheck.proofs.links.has_links.Given as goal

abbrev pub invariant-loop-n : goal.invariant-loop-n
invariant-loop-n l = (m : ℕ) → 1 ≤ m → m < l.n → LinksFit l.image m
