use Rattle.std.proofs.Common.{ℕ, ◌<◌, ◌≡◌}
use Rattle.std.specs.Prelude.{slice_get}
use Rattle.spaces.specs.Spaces.{view_at}
use Rattle.likeness.proofs.processes.has_same_memory.Given as goal

abbrev pub invariant-loop-n : goal.invariant-loop-n
invariant-loop-n g l = (k : ℕ) → k < l.n
    → slice_get (view_at l.one l.at).memory k ≡ slice_get (view_at l.other l.at).memory k
