use Rattle.pagetable.proofs.Common.{ap, arith, inl, inr, low_node, refl, sym, ℕ, ◌-◌, ◌∙◌}
use Rattle.pagetable.proofs.ShapeLemmas.{Adds-none, IsTidy-remove, used-before}
use Rattle.pagetable.proofs.TreeLemmas.{low_is_node, lookup_of-low, some-unless_none, tree-leaf_sound}
use Rattle.pagetable.proofs.WriteLemmas.{rewrites-changes}
use Rattle.std.specs.Option.{option_map}
use Rattle.pagetable.proofs.PageTable.unmap_in.Goals as goal

pub leaf-requires-clause-table : goal.leaf-requires-clause-table
leaf-requires-clause-table c =
    c.requires.paged.tree.inside (low_node c.args.page) c.args.low.0 (low_is_node c.args.page) c.requires.low

pub leaf-requires-clause-sound : goal.leaf-requires-clause-sound
leaf-requires-clause-sound c = tree-leaf_sound c.requires.paged.tree c.args.page (sym c.requires.low)

pub unwrap-requires : goal.unwrap-requires
unwrap-requires c = some-unless_none _ (λ none. c.requires.mapped
    (lookup_of-low _ _ c.args.page (sym c.requires.low) ∙ sym (rw none at c.leaf.ensures)))

pub returns : goal.returns
returns c =
    let page = c.args.page in
    let removes = c.clear_leaf.ensures.removes in
    let clear = c.clear_leaf.ensures.rewrites in
    let drops = Adds-none c.clear_leaf.new.memory.ram c.args.memory.now.ram c.args.self.now.root.0 page _ _
    (clear.tables (low_node page) (low_is_node page) ∙ c.requires.low) (λ x nx. sym (clear.tables x nx))
    (sym clear.free) in
    let in_use = used-before c.clear_leaf.new.memory.ram c.args.self.now.root.0 page c.requires.page c.requires.inner
    (λ none. c.requires.before (sym (removes.others (page - 1) (omega (arith, c.requires.page))
    (omega (arith, c.requires.inner))) ∙ none)) in
    record {
      unmaps = record {
        was = ap (option_map (λ (x : ℕ × ℕ). x.0)) (lookup_of-low _ _ page (sym c.requires.low)
            ∙ sym (rw c.unwrap.ensures at c.leaf.ensures));
        removes = removes;
        drops = drops;
        tidy = IsTidy-remove c.requires.tidy removes drops (λ _ _. in_use _ (inl refl)) (λ _ _. in_use _ (inr refl));
        changes = rewrites-changes clear;
      };
      rewrites = clear;
    }
