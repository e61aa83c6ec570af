use Rattle.std.proofs.Common.{arith}
use Rattle.vm.proofs.PageLemmas.{leaf-shut}
use Rattle.vm.proofs.Marks.closed_leaf.Goals as goal

pub returns : goal.returns
returns c = omega (
  arith,
  leaf-shut c.args.self.perm.w c.args.self.perm.x c.args.self.perm.u,
  c.leaf_marks-closed.ensures.marks,
  c.kernel_bits.ensures,
)
