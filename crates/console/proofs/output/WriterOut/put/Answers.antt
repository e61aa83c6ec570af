use Rattle.console.proofs.Common.{arith, Appends-trans}
use Rattle.std.proofs.Math.Seq.{take-add}
use Rattle.console.proofs.output.WriterOut.put.Goals as goal

pub loop-done-preserved : goal.loop-done-preserved
loop-done-preserved g c =
    let before = c.loop-done.invariant in
    let split = c.split_at.ensures in
    record {
      took = rw (take-add _ _ c.args.bytes.now, ← split.back)
          (Appends-trans _ _ _ _ _ before.took c.in-Ok.ensures.bytes);
      within = omega (arith, c.in-Ok.ensures.bound, split.back_len);
      sound = before.sound;
    }
