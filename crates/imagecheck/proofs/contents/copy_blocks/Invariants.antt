use Rattle.std.proofs.Common.{◌≡◌, ◌++◌, take, flat_map}
use Rattle.unixmodel.specs.Image.{block_at, data_blocks}
use Rattle.imagecheck.proofs.contents.copy_blocks.Given as goal

abbrev pub invariant-loop-k : goal.invariant-loop-k
invariant-loop-k g l = l.bytes.items ≡ l.initial.bytes.items
    ++ flat_map (block_at l.image) (take l.k (data_blocks l.image l.n))
