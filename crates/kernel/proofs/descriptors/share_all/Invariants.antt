use Rattle.kernel.proofs.Common.{drop, ℕ, ◌+◌, ◌≡◌, ◌≤◌, all_shared, count_at}
use Rattle.kernel.proofs.descriptors.share_all.Given as goal

-- the descriptors that are left turn the open files into what all of them make of the old ones
abbrev pub invariant-loop-descriptor : goal.invariant-loop-descriptor
invariant-loop-descriptor l =
    (all_shared l.files (drop l.descriptor-index l.descriptors) ≡ all_shared l.fn.files l.fn.descriptors)
    × ((n : ℕ) → count_at l.files n ≤ 1024 + l.descriptor-index)
