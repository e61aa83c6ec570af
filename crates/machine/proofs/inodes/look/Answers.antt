use Rattle.machine.proofs.Common.{◌∙◌}
use Rattle.kernel.proofs.Steps.{lost-reads}
use Rattle.machine.proofs.Steps.{told-shown}
use Rattle.machine.proofs.inodes.look.Goals as goal

pub returns-in_err-seen : goal.returns-in_err-seen
returns-in_err-seen g c = lost-reads _ _ _ c.from_residual.result c.from_residual.ensures.0 c.in_err-seen.ensures

pub returns : goal.returns
returns g c = let reads = c.in_ok-seen.ensures in (reads.0, c.told.ensures ∙ told-shown _ _ reads.1)
