use Rattle.std.proofs.Common.{arith}
use Rattle.vm.proofs.PageLemmas.{leaf-made}
use Rattle.vm.proofs.Marks.leaf.Goals as goal

pub returns : goal.returns
returns c = omega (
  arith,
  leaf-made c.args.self.perm.w c.args.self.perm.x c.args.self.perm.u c.args.self.shared,
  c.leaf_marks-leaf.ensures.marks,
  c.kernel_bits.ensures,
)
