use Rattle.std.proofs.Common.{None, ℕ, ◌<◌, ◌≡◌}
use Rattle.kernel.specs.Kernel.{state_of}
use Rattle.unixmodel.specs.Files.{slot}
use Rattle.likeness.proofs.opened.are_files_paired.Given as goal

abbrev pub invariant-loop-id : goal.invariant-loop-id
invariant-loop-id g l = (k : ℕ) → k < l.id → slot l.files.back k ≡ None → slot (state_of l.other).opens k ≡ None
