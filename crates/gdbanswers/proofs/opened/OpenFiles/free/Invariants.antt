use Rattle.std.proofs.Common.{None, is_some, slice_index_or, true, ℕ, ◌<◌, ◌≡◌}
use Rattle.gdbanswers.proofs.opened.OpenFiles.free.Given as goal

-- none so far is closed
abbrev pub invariant-loop-index : goal.invariant-loop-index
invariant-loop-index l = (k : ℕ) → k < l.index → is_some (slice_index_or l.self.files.items k None) ≡ true
