use Rattle.std.proofs.Common.{arith}
use Rattle.asm.proofs.DistanceLemmas.{ahead_in, back_in}
use Rattle.asm.proofs.distance.field_between.Goals as goal

pub returns-then-ahead-above : goal.returns-then-ahead-above
returns-then-ahead-above c =
    ahead_in c.args.from c.args.to c.args.below c.args.above c.args.bits (omega arith) (omega arith) c.requires.2

pub returns-then-back-below : goal.returns-then-back-below
returns-then-back-below c =
    rw c.pow.ensures (back_in c.args.from c.args.to c.args.below c.args.above c.args.bits (omega arith) (omega arith)
    c.requires.1)
