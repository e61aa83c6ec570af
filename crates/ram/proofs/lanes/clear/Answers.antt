use Rattle.std.proofs.Common.{◌+◌, ◌-◌, ◌*◌, ◌<◌, ℕ, arith, replicate}
use Rattle.std.proofs.lemmas.List.{length-replicate}
use Rattle.ram.proofs.MemoryLemmas.{IsWritten-more, IsWritten-none, IsWritten-whole, zeros-part}
use Rattle.ram.proofs.lanes.clear.Goals as goal

pub loop-part-init : goal.loop-part-init
loop-part-init c = IsWritten-none _ _ c.told-frame

pub loop-part-preserved : goal.loop-part-preserved
loop-part-preserved c =
    let n : ℕ = c.loop-part.part in
    IsWritten-more (n * 64 + 64 - n * 64) (replicate 64 0) c.loop-part.invariant c.loop-part-test.true (omega arith)
    (length-replicate {A = ℕ} 4096 0)
    (zeros-part (n * 64) 64 4096 (let h : n < 64 = c.loop-part-test.true in omega arith))

pub returns : goal.returns
returns c = IsWritten-whole c.loop-part.invariant c.loop-part-test.false (length-replicate {A = ℕ} 4096 0)
