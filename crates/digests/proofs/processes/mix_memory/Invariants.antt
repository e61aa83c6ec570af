use Rattle.digests.proofs.Common.{each, mix, view_at, ◌≡◌}
use Rattle.digests.proofs.Steps.{pages_step}
use Rattle.digests.proofs.processes.mix_memory.Given as goal

abbrev pub invariant-loop-n : goal.invariant-loop-n
invariant-loop-n g l = l.digest ≡ each (pages_step (view_at l.spaces l.at).memory) l.n (mix l.fn.digest l.pages)
