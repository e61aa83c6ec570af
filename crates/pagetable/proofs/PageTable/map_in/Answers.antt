use Rattle.pagetable.proofs.ShapeLemmas.{Adds-none, IsTidy-insert}
use Rattle.pagetable.proofs.WriteLemmas.{rewrites-changes}
use Rattle.pagetable.proofs.PageTable.map_in.Goals as goal

pub returns-clause-mapped : goal.returns-clause-mapped
returns-clause-mapped c =
    let set = c.set_leaf.ensures in
    record {
      maps = set.maps;
      adds = Adds-none _ _ c.args.self.now.root.0 c.args.page _ _ c.requires.low set.rewrites.tables set.rewrites.free;
      tidy = λ is. IsTidy-insert c.set_leaf.new.memory.ram is c.requires.page set.maps
          (λ x nx _ _. set.rewrites.tables x nx);
      changes = rewrites-changes set.rewrites;
    }
