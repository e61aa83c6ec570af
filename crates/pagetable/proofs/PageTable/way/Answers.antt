use Rattle.pagetable.proofs.Common.{ap, sym, ℕ, ◌∙◌}
use Rattle.std.specs.Option.{option_map}
use Rattle.pagetable.proofs.TreeLemmas.{lookup_of-low, some-unless_none, table_at-low, tree-leaf_sound}
use Rattle.pagetable.proofs.PageTable.way.Goals as goal

pub unwrap-mid-requires : goal.unwrap-mid-requires
unwrap-mid-requires c = some-unless_none _ (λ none. c.requires.mapped
    (lookup_of-low _ _ c.args.page (sym (table_at-low _ _ c.args.page (rw none at c.mid_table.ensures)))))

pub unwrap-low-requires : goal.unwrap-low-requires
unwrap-low-requires c = some-unless_none _ (λ none. c.requires.mapped
    (lookup_of-low _ _ c.args.page (rw none at c.low_table.ensures)))

pub leaf-requires-clause-sound : goal.leaf-requires-clause-sound
leaf-requires-clause-sound c = tree-leaf_sound c.requires.tree c.args.page
    (rw c.unwrap-low.ensures at c.low_table.ensures)

pub unwrap-requires : goal.unwrap-requires
unwrap-requires c = some-unless_none _ (λ none. c.requires.mapped
    (lookup_of-low _ _ c.args.page (rw c.unwrap-low.ensures at c.low_table.ensures) ∙ sym (rw none at c.leaf.ensures)))

pub returns-clause-frame : goal.returns-clause-frame
returns-clause-frame c = ap (option_map (λ (x : ℕ × ℕ). x.0))
    (lookup_of-low _ _ c.args.page (rw c.unwrap-low.ensures at c.low_table.ensures)
    ∙ sym (rw c.unwrap.ensures at c.leaf.ensures))
