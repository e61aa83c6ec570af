use Rattle.pagetable.proofs.Common.{ap, arith, mid_node, refl, sym, ◌∙◌, ◌∷◌}
use Rattle.pagetable.proofs.ShapeLemmas.{Adds-by, Inserts-after, IsMapped, mapped-by}
use Rattle.pagetable.proofs.WriteLemmas.{changes-twice, rewrites-changes}
use Rattle.pagetable.proofs.TreeLemmas.{low_is_node, mid_is_node, missing-is, no_low}
use Rattle.pagetable.proofs.PageTable.map.Goals as goal

pub returns-then-free-lt1-clause-refused : goal.returns-then-free-lt1-clause-refused
returns-then-free-lt1-clause-refused c = (
  λ _. omega (
    arith,
    missing-is _ _ c.args.page c.in-Some.ensures c.in-None-low_table.ensures,
    c.free.ensures c.args.memory.now.ram,
  ),
  λ _. refl,
)

pub returns-then-free-lt2-clause-refused : goal.returns-then-free-lt2-clause-refused
returns-then-free-lt2-clause-refused c = (
  λ _. omega (
    arith,
    missing-is _ _ c.args.page c.in-None.ensures refl,
    c.free-in-None.ensures c.args.memory.now.ram,
  ),
  λ _. refl,
)

pub returns-in-Some-low_table : goal.returns-in-Some-low_table
returns-in-Some-low_table c =
    let set = c.set_leaf.ensures.rewrites in
    let page = c.args.page in
    let mid = c.in-Some.ensures in
    let low = c.in-Some-low_table.ensures in
    let all : IsMapped _ _ c.args.self.now.root.0 page c.args.frame.0 c.args.marks.0 =
    mapped-by c.set_leaf.ensures.maps c.requires.page (rewrites-changes set) (Adds-by _ _ _ page _ _ mid low refl refl
    (set.tables _ (mid_is_node page) ∙ sym mid) (set.tables _ (low_is_node page) ∙ sym low)
    (λ x nx _ _. set.tables x nx) (sym set.free)) in
    record {
      mapped = all.mapped;
      taken = all.taken;
      refused = (λ e. cc, λ less. absurd (all.not_refused less));
      unchanged = tt;
    }

pub returns-else-free-lt1 : goal.returns-else-free-lt1
returns-else-free-lt1 c =
    let set = c.set_leaf-in-None-low_table.ensures.rewrites in
    let made = c.make_low-low.ensures in
    let page = c.args.page in
    let mid = c.in-Some.ensures in
    let maps = Inserts-after _ _ _ _ _ _ made.same c.set_leaf-in-None-low_table.ensures.maps in
    let all : IsMapped _ _ c.args.self.now.root.0 page c.args.frame.0 c.args.marks.0 =
    mapped-by maps c.requires.page (changes-twice made.changes (rewrites-changes set))
    (Adds-by _ _ _ page _ _ mid c.in-None-low_table.ensures refl refl
    (set.tables _ (mid_is_node page) ∙ made.beside (mid_node page) (mid_is_node page) (λ e. cc) ∙ sym mid)
    (set.tables _ (low_is_node page) ∙ made.there) (λ x nx _ nl. set.tables x nx ∙ made.beside x nx nl)
    (rw set.free made.taken)) in
    record {
      mapped = all.mapped;
      taken = all.taken;
      refused = (λ e. cc, λ less. absurd (all.not_refused less));
      unchanged = tt;
    }

pub returns-else-free-lt2 : goal.returns-else-free-lt2
returns-else-free-lt2 c =
    let set = c.set_leaf-in-None.ensures.rewrites in
    let made = c.make_low-low-in-None.ensures in
    let first = c.make_mid-mid.ensures.made in
    let page = c.args.page in
    let maps = Inserts-after _ _ _ _ _ _ (λ p. made.same p ∙ first.same p) c.set_leaf-in-None.ensures.maps in
    let changes = changes-twice (changes-twice first.changes made.changes) (rewrites-changes set) in
    let all : IsMapped _ _ c.args.self.now.root.0 page c.args.frame.0 c.args.marks.0 =
    mapped-by maps c.requires.page changes (Adds-by _ _ _ page _ _ c.in-None.ensures
    (sym (no_low c.args.memory.now.ram c.args.self.now.root.0 page (sym c.in-None.ensures))) refl refl
    (set.tables _ (mid_is_node page) ∙ made.beside (mid_node page) (mid_is_node page) (λ e. cc) ∙ first.there)
    (set.tables _ (low_is_node page) ∙ made.there)
    (λ x nx nm nl. set.tables x nx ∙ made.beside x nx nl ∙ first.beside x nx nm)
    (first.taken ∙ ap (λ l. c.make_mid-mid.result.0 ∷ l) (rw set.free made.taken))) in
    record {
      mapped = all.mapped;
      taken = all.taken;
      refused = (λ e. cc, λ less. absurd (all.not_refused less));
      unchanged = tt;
    }
