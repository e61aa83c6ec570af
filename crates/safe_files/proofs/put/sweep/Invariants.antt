use Rattle.safe_files.specs.Steps.{Known, Sweeps}
use Rattle.safe_files.proofs.put.sweep.Given as goal

-- nothing is gone so far but what programs left
abbrev pub invariant-loop-number : goal.invariant-loop-number
invariant-loop-number g l = Known (Sweeps l.fn.path) (g.F.Folder.held l.fn.folder) (g.F.Folder.held l.folder)
