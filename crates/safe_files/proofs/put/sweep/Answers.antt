use Rattle.safe_files.proofs.StepLemmas.{known-then, sweeps-none, sweeps-then}
use Rattle.safe_files.proofs.put.sweep.Goals as goal

pub loop-number-init : goal.loop-number-init
loop-number-init g c = sweeps-none c.args.path.now (g.F.Folder.held c.args.folder.now)

pub returns-then-sweep_at : goal.returns-then-sweep_at
returns-then-sweep_at g c = known-then (sweeps-then c.args.path.now) _ _ _ c.loop-number.invariant c.sweep_at.ensures

pub loop-number-preserved : goal.loop-number-preserved
loop-number-preserved g c = known-then (sweeps-then c.args.path.now) _ _ _ c.loop-number.invariant c.sweep_at.ensures
