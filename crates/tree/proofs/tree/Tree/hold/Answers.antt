use Rattle.tree.proofs.Common.{◌<◌, ap, arith, subst, sym, ◌∙◌, set, ◌+◌, get_or_default_zero, length-set, holders}
use Rattle.tree.proofs.Common.{FileTree, tree_with}
use Rattle.tree.proofs.Storing.{number-held}
use Rattle.tree.proofs.tree.Tree.hold.Goals as goal

pub index_mut-requires : goal.index_mut-requires
index_mut-requires g c =
    let whole = c.self.inside.holds.ok in
    let within = number-held c.self.invariant c.self.view_is c.requires.up _ c.requires.node in
    omega arith

pub overflow_add-index_mut : goal.overflow_add-index_mut
overflow_add-index_mut g c =
    let few : holders c.self.inside.holds.items c.args.number < 65535 =
    subst (λ (t : FileTree). holders t.holds c.args.number < 65535) (sym c.self.view_is) c.requires.few in
    let within = number-held c.self.invariant c.self.view_is c.requires.up _ c.requires.node in
    let value = c.index_mut.ensures.value
    ∙ get_or_default_zero c.self.inside.holds.items c.args.number c.index_mut.result.now within in
    omega arith

pub invariant_of-self : goal.invariant_of-self
invariant_of-self g c = record {
  count = length-set c.self.inside.holds.items c.args.number (c.index_mut.result.now + 1) ∙ c.self.invariant.count;
  held = c.self.invariant.held;
}

pub returns : goal.returns
returns g c =
    let items = c.self.inside.holds.items in
    let within = number-held c.self.invariant c.self.view_is c.requires.up _ c.requires.node in
    let value = c.index_mut.ensures.value ∙ get_or_default_zero items c.args.number c.index_mut.result.now within in
    rw (← c.self.view_is) (ap
    (λ k. tree_with (g.D.BlockDev.identity c.self.inside.volume.device) c.self.inside.volume
    (set items c.args.number (k + 1))) value)
