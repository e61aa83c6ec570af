use Rattle.imagecheck.proofs.Common.{◌≡◌, ℕ, ◌<◌, nat_lt, ◌||◌, bit_of, data_start, inodes_in, is_named, size_in}
use Rattle.imagecheck.proofs.marks.has_bitmap.Given as goal

abbrev pub invariant-loop-block : goal.invariant-loop-block
invariant-loop-block l = (b : ℕ) → b < l.block
    → bit_of l.image b ≡ (nat_lt b (data_start (size_in l.image) (inodes_in l.image)) || is_named l.image b)
