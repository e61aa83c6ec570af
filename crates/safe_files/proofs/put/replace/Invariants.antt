use Rattle.safe_files.specs.Steps.{IsSame, Known}
use Rattle.safe_files.proofs.put.replace.Given as goal

-- nothing has changed so far
abbrev pub invariant-loop-number : goal.invariant-loop-number
invariant-loop-number g l = Known IsSame (g.F.Folder.held l.fn.folder) (g.F.Folder.held l.folder)
