use Rattle.kernel.proofs.Ending.{IsLetting}
use Rattle.kernel.proofs.descriptors.let_go.Given as goal

abbrev pub invariant-loop-node : goal.invariant-loop-node
invariant-loop-node g l = IsLetting l.fn.tree l.fn.nodes l.tree l.node-index
