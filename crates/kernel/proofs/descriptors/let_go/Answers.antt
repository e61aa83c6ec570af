use Rattle.kernel.proofs.Common.{ap, arith, drop_all, refl, sym, ◌∙◌, all_dropped}
use Rattle.kernel.proofs.Ending.{counted, held-next, lets-fails, lets-more}
use Rattle.kernel.proofs.descriptors.let_go.Goals as goal

pub loop-node-init : goal.loop-node-init
loop-node-init g c = record
    { up = c.requires.up; held = c.requires.held; goes = λ failures. refl; same_device = refl; later = omega arith }

pub drop_hold-requires-clause-node : goal.drop_hold-requires-clause-node
drop_hold-requires-clause-node g c = (held-next c.loop-node.invariant c.loop-node-test.true).0

pub drop_hold-requires-clause-some : goal.drop_hold-requires-clause-some
drop_hold-requires-clause-some g c = (held-next c.loop-node.invariant c.loop-node-test.true).1.0

pub returns-in_err-drop_hold : goal.returns-in_err-drop_hold
returns-in_err-drop_hold g c =
    lets-fails c.loop-node.invariant _ _ _ c.drop_hold.ensures _ c.in_err-drop_hold.was c.from_residual.ensures.0

pub loop-node-preserved : goal.loop-node-preserved
loop-node-preserved g c =
    lets-more c.loop-node.invariant c.loop-node-test.true _ _ c.drop_hold.ensures _ c.in_ok-drop_hold.was

pub returns : goal.returns
returns g c = record {
  told = sym (ap (λ ns. counted (all_dropped c.loop-node.tree ns) c.loop-node.tree.failures)
      (drop_all c.loop-node.node-index c.args.nodes.now (omega arith)))
      ∙ c.loop-node.invariant.goes c.loop-node.tree.failures;
  up = c.loop-node.invariant.up;
  down = tt;
  same_device = c.loop-node.invariant.same_device;
  cause = record { later = c.loop-node.invariant.later; failed = λ e. cc };
}
