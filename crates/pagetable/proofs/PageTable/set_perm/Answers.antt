use Rattle.pagetable.proofs.Common.{refl}
use Rattle.pagetable.proofs.AgreeLemmas.{mapped-inside}
use Rattle.pagetable.proofs.PageTable.set_perm.Goals as goal

pub set_leaf-requires-clause-frame : goal.set_leaf-requires-clause-frame
set_leaf-requires-clause-frame c = mapped-inside c.requires.paged.tree c.args.page _ refl c.way-way.ensures.frame
