use Rattle.std.proofs.Common.{arith, below_more}
use Rattle.likeness.proofs.opened.are_files_paired.Goals as goal

pub loop-id-preserved : goal.loop-id-preserved
loop-id-preserved g c = below_more _ _ c.loop-id.invariant c.if-not-is_file_paired.ensures

pub returns : goal.returns
returns g c = λ l low. c.loop-id.invariant l (omega (arith, low, c.loop-id-test.false, c.loop-id.auto.id-end))
