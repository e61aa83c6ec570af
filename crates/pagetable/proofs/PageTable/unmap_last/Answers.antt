use Rattle.pagetable.proofs.Common.{low_node, ◌∙◌}
use Rattle.pagetable.proofs.ShapeLemmas.{both-drops, both-removes, both-tidy, IsWay, last-low}
use Rattle.pagetable.proofs.ShapeLemmas.{last-mid, low-drops, low-mid, low-removes}
use Rattle.pagetable.proofs.WriteLemmas.{changes-twice, rewrites-changes}
use Rattle.pagetable.proofs.TreeLemmas.{low_is_node}
use Rattle.pagetable.proofs.PageTable.unmap_last.Goals as goal
use Rattle.pagetable.proofs.PageTable.unmap_last.Goals.{After-clear_leaf}

way : (c : After-clear_leaf)
    → IsWay c.args.memory.now.ram c.args.self.now.root.0 c.args.page c.way-way.result.mid.0 c.way-way.result.low.0
way c = record { at_mid = c.way-way.ensures.mid; at_low = c.way-way.ensures.low }

pub drop_low-requires-clause-empty : goal.drop_low-requires-clause-empty
drop_low-requires-clause-empty c =
    let gone = c.clear_leaf.ensures.removes in
    let clear = c.clear_leaf.ensures.rewrites in
    last-low c.args.memory.now.ram c.clear_leaf.new.memory.ram c.args.self.now.root.0 c.args.page c.requires.last
    gone c.requires.page (clear.tables (low_node c.args.page) (low_is_node c.args.page) ∙ c.way-way.ensures.low)

pub drop_mid-requires-clause-empty : goal.drop_mid-requires-clause-empty
drop_mid-requires-clause-empty c =
    let at = goal.at.drop_mid-requires-clause-empty c in
    let one = c.drop_low.ensures in
    let gone = c.clear_leaf.ensures.removes in
    let clear = c.clear_leaf.ensures.rewrites in
    let on = way at.After-clear_leaf in
    last-mid c.args.memory.now.ram c.drop_low.new.memory.ram c.args.self.now.root.0 c.args.page c.requires.last
    (low-removes on gone clear one) c.requires.page c.requires.tidy (low-drops on gone clear one)
    (low-mid on gone clear one) one.gone

pub returns : goal.returns
returns c =
    let at = goal.at.returns c in
    let one = c.drop_low.ensures in
    let gone = c.clear_leaf.ensures.removes in
    let clear = c.clear_leaf.ensures.rewrites in
    let on = way at.After-clear_leaf in
    let two = c.drop_mid.ensures in
    record {
      was = c.way-way.ensures.frame;
      removes = both-removes on gone clear one two;
      drops = both-drops on gone clear one two;
      tidy = both-tidy on gone clear one two c.requires.tidy;
      changes = changes-twice (changes-twice (rewrites-changes clear) one.changes) two.changes;
    }
