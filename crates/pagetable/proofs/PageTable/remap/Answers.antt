use Rattle.pagetable.proofs.ShapeLemmas.{IsTidy-insert}
use Rattle.pagetable.proofs.TreeLemmas.{lookup_of-low, some-unless_none}
use Rattle.pagetable.proofs.PageTable.remap.Goals as goal

pub unwrap-low-requires : goal.unwrap-low-requires
unwrap-low-requires c = some-unless_none _ (λ none. c.requires.mapped
    (lookup_of-low _ _ c.args.page (rw none at c.low_table.ensures)))

pub returns-clause-tidy : goal.returns-clause-tidy
returns-clause-tidy c = λ is. IsTidy-insert c.set_leaf.new.memory.ram is c.requires.page c.set_leaf.ensures.maps
    (λ x nx _ _. c.set_leaf.ensures.rewrites.tables x nx)
