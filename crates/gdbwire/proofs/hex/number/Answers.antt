use Rattle.std.proofs.Common.{arith}
use Rattle.std.proofs.lemmas.Grind.{common_steps}
use Rattle.gdbwire.proofs.Numbers.{begins, next-digit, no-number, none-of-none, whole}
use Rattle.gdbwire.proofs.hex.number.Goals as goal

pub returns-then-is_empty : goal.returns-then-is_empty
returns-then-is_empty c = grind (arith, common_steps, none-of-none)

pub returns-in_err-value : goal.returns-in_err-value
returns-in_err-value c = grind (arith, common_steps, begins, next-digit, no-number)

pub loop-code-preserved : goal.loop-code-preserved
loop-code-preserved c = grind (arith, common_steps, next-digit)

pub returns : goal.returns
returns c = grind (arith, common_steps, begins, whole)
