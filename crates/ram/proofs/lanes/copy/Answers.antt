use Rattle.std.proofs.Common.{◌+◌, ◌-◌, ◌*◌, ℕ, arith}
use Rattle.ram.proofs.MemoryLemmas.{IsWritten-more, IsWritten-none, IsWritten-whole, part-read}
use Rattle.ram.proofs.lanes.copy.Goals as goal

pub loop-part-init : goal.loop-part-init
loop-part-init c = IsWritten-none _ _ c.told-to

pub loop-part-preserved : goal.loop-part-preserved
loop-part-preserved c =
    let n : ℕ = c.loop-part.part in
    IsWritten-more (n * 64 + 64 - n * 64) _ c.loop-part.invariant c.loop-part-test.true (omega arith) c.told-from
    (part-read (n * 64) (n * 64 + 64 - n * 64) c.args.from.now (omega arith))

pub returns : goal.returns
returns c = IsWritten-whole c.loop-part.invariant c.loop-part-test.false c.told-from
