use Rattle.pagetable.proofs.Common.{low_node, mid_node, inl, inr, refl, sym, ◌∙◌}
use Rattle.pagetable.proofs.ShapeLemmas.{Adds-by, both-drops, both-removes, both-tidy}
use Rattle.pagetable.proofs.ShapeLemmas.{IsTidy-remove, IsWay, low-drops, low-mid, low-removes, some-none, used-low}
use Rattle.pagetable.proofs.ShapeLemmas.{used-mid}
use Rattle.pagetable.proofs.WriteLemmas.{changes-twice, rewrites-changes}
use Rattle.pagetable.proofs.TreeLemmas.{low_is_node, mid_is_node}
use Rattle.pagetable.proofs.PageTable.unmap.Goals as goal
use Rattle.pagetable.proofs.PageTable.unmap.Goals.{After-clear_leaf}

way : (c : After-clear_leaf)
    → IsWay c.args.memory.now.ram c.args.self.now.root.0 c.args.page c.way-way.result.mid.0 c.way-way.result.low.0
way c = record { at_mid = c.way-way.ensures.mid; at_low = c.way-way.ensures.low }

pub returns-then-is_used : goal.returns-then-is_used
returns-then-is_used c =
    let page = c.args.page in
    let gone = c.clear_leaf.ensures.removes in
    let clear = c.clear_leaf.ensures.rewrites in
    let mid = c.way-way.ensures.mid in
    let low = c.way-way.ensures.low in
    let used = c.is_used.ensures.used c.if-is_used.true in
    let after = clear.tables (low_node page) (low_is_node page) ∙ low in
    let drops = Adds-by c.clear_leaf.new.memory.ram c.args.memory.now.ram c.args.self.now.root.0 page _ _
    (sym mid ∙ sym (clear.tables (mid_node page) (mid_is_node page))) (sym after) refl refl
    mid low (λ x nx _ _. sym (clear.tables x nx)) clear.free in
    let in_use = used-low _ _ page used.0 c.requires.page after used.1 used.2 in
    record {
      was = c.way-way.ensures.frame;
      removes = gone;
      drops = drops;
      tidy = IsTidy-remove c.requires.tidy gone drops (λ _ _. in_use _ (inl refl))
          (λ _ _. in_use _ (inr refl));
      changes = rewrites-changes clear;
    }

pub returns-then-is_used-2 : goal.returns-then-is_used-2
returns-then-is_used-2 c =
    let at = goal.at.returns-then-is_used-2 c in
    let gone = c.clear_leaf.ensures.removes in
    let clear = c.clear_leaf.ensures.rewrites in
    let on = way at.After-clear_leaf in
    let one = c.drop_low.ensures in
    let removes = low-removes on gone clear one in
    let drops = low-drops on gone clear one in
    let used = c.is_used-2.ensures.used c.if-is_used-2.true in
    record {
      was = c.way-way.ensures.frame;
      removes = removes;
      drops = drops;
      tidy = IsTidy-remove c.requires.tidy removes drops
          (λ _ _. used-mid c.requires.tidy removes drops c.way-way.result.mid.0 used.0 c.requires.page
          (low-mid on gone clear one) one.gone used.1 used.2) (λ t h. absurd (some-none (sym h ∙ one.gone)));
      changes = changes-twice (rewrites-changes clear) one.changes;
    }

pub returns : goal.returns
returns c =
    let at = goal.at.returns c in
    let one = c.drop_low.ensures in
    let gone = c.clear_leaf.ensures.removes in
    let clear = c.clear_leaf.ensures.rewrites in
    let on = way at.After-clear_leaf in
    let two = c.drop_mid.ensures in
    record {
      was = c.way-way.ensures.frame;
      removes = both-removes on gone clear one two;
      drops = both-drops on gone clear one two;
      tidy = both-tidy on gone clear one two c.requires.tidy;
      changes = changes-twice (changes-twice (rewrites-changes clear) one.changes) two.changes;
    }
