use Rattle.std.proofs.Common.{arith}
use Rattle.balloc.proofs.Clearing.{all_full, full_before, not_full_at}
use Rattle.balloc.proofs.bitmap.full_bytes.Goals as goal

pub returns-then-others-eq0-clause-full : goal.returns-then-others-eq0-clause-full
returns-then-others-eq0-clause-full c = all_full c.args.bytes.now c.requires c.if-others-eq0.true

pub returns-clause-full : goal.returns-clause-full
returns-clause-full c = full_before c.args.bytes.now c.requires (omega (arith, c.if-others-eq0.false))

pub returns-clause-next : goal.returns-clause-next
returns-clause-next c = not_full_at c.args.bytes.now c.requires (omega (arith, c.if-others-eq0.false))
