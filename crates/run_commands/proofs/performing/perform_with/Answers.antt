use Rattle.imagerules.specs.Content.{image_of}
use Rattle.run_commands.proofs.Showing.{passed-on, runs-failing, unbooted-failing}
use Rattle.run_commands.proofs.performing.perform_with.Goals as goal

pub returns-in_err-finish-clause-refused : goal.returns-in_err-finish-clause-refused
returns-in_err-finish-clause-refused g c =
    passed-on c.from_residual.result c.in_err-finish.field-0.0 _ c.from_residual.ensures.1
    (unbooted-failing g.D.BlockDev.identity g.D.BlockDev.failures _ c.in-Some.n _ c.new-failing.result c.in-Some.is
    c.new-failing.ensures.device c.new-failing.ensures.left
    (image_of (g.D.BlockDev.content c.args.hardware.disk)) _ c.in_err-finish.field-0.0
    (rw (← c.new-failing.ensures.device) c.in_err-finish.ensures.refused))

pub returns-clause-ran : goal.returns-clause-ran
returns-clause-ran g c =
    runs-failing g.D.BlockDev.identity g.D.BlockDev.failures _ c.in-Some.n _ c.new-failing.result c.in-Some.is
    c.new-failing.ensures.device c.new-failing.ensures.left g.D.BlockDev.content _ _ _ _ _ _
    c.in_ok-finish.field-0.disk c.inner_of.result c.inner_of.ensures c.in_ok-finish.ensures.ran
