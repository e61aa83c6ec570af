use Rattle.std.proofs.Common.{arith, le_trans}
use Rattle.std.proofs.KnownBytes.{Appends-trans}
use Rattle.std.proofs.Math.Seq.{take-add}
use Rattle.driver.proofs.tail.TailOut.put.Goals as goal

pub loop-done-preserved : goal.loop-done-preserved
loop-done-preserved g c =
    let before = c.loop-done.invariant in
    let split = c.split_at.ensures in
    record {
      took = rw (take-add _ _ c.args.bytes.now, ← split.back)
          (Appends-trans _ _ _ _ _ before.took c.in_ok-done.ensures.takes);
      within = omega (arith, c.in_ok-done.ensures.some.1, split.back_len);
      later = le_trans before.later c.in_ok-done.ensures.later;
    }
