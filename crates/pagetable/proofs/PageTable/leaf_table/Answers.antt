use Rattle.pagetable.proofs.Common.{sym}
use Rattle.pagetable.proofs.TreeLemmas.{some-unless_none}
use Rattle.pagetable.proofs.PageTable.leaf_table.Goals as goal

pub unwrap-requires : goal.unwrap-requires
unwrap-requires c = some-unless_none _ (λ none. c.requires.there (sym (rw none at c.low_table.ensures)))
