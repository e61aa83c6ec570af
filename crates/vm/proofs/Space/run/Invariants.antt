use Rattle.vm.proofs.Common.{◌≤◌, run_of, pages_of}
use Rattle.vm.proofs.Space.run.Given as goal

abbrev pub invariant-loop-i : goal.invariant-loop-i
invariant-loop-i l = l.i ≤ run_of l.access (pages_of l.ram l.self) l.first
