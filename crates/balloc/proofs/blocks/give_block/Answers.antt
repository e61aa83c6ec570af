use Rattle.balloc.proofs.Counting.{free_blocks-give}
use Rattle.balloc.proofs.Clearing.{SetsBit-byte}
use Rattle.cache.proofs.Using.{goes-stays, step-failed, step-last}
use Rattle.balloc.proofs.blocks.give_block.Goals as goal

pub returns-in_err-read_part : goal.returns-in_err-read_part
returns-in_err-read_part g c =
    step-failed goes-stays c.read_part.ensures c.in_err-read_part.was c.from_residual.ensures.1

pub returns : goal.returns
returns g c = step-last c.read_part.ensures.goes (λ _ written.
    let sets = SetsBit-byte c.without_bit-byte.result c.requires.parts c.bitmap_start.ensures c.requires.high
    c.in_ok-read_part.ensures.done.same c.in_ok-read_part.ensures.done.told
    c.without_bit-byte.ensures.here c.without_bit-byte.ensures.others written in
    record { sets = sets; free = free_blocks-give c.requires.low c.requires.high c.requires.taken sets })
    c.write.ensures
