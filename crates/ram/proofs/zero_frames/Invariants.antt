use Rattle.std.proofs.Common.{◌≡◌, ℕ, replicate}
use Rattle.ram.proofs.zero_frames.Given as goal

abbrev pub invariant-loop : goal.invariant-loop
invariant-loop l = l.frames.items ≡ replicate l.counter (replicate {A = ℕ} 4096 0)
